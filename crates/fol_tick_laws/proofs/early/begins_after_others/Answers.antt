use Rattle.std.proofs.Common.{◌≡◌, ◌∙◌, rules, true, false}
use Rattle.std.proofs.lemmas.Bool.{and_parts}
use Rattle.fol_core.specs.Answers.{is_free, is_over}
use Rattle.fol_core.specs.Meaning.{Meaning, world_of}
use Rattle.fol_tick_laws.specs.OpenTicks.{IsUntouched}
use Rattle.fol_tick_laws.proofs.OpenTicks.{learnt_opens, may_begin, untouched_here, untouched_same}
use Rattle.fol_tick_laws.proofs.Unprepared.{alone_prepared, none_left, still_none}
use Rattle.fol_tick_laws.proofs.early.begins_after_others.Goals as goal

pub loads_far-requires : goal.loads_far-requires
loads_far-requires g c =
    alone_prepared c.reserve.new.self c.prepare-tick.new.self 1 (still_none c.args.core.now c.reserve.new.self c.in-Ok.ensures.same.prepared c.requires.none)
    c.prepare-tick.ensures.prepared.prepared

pub learn-requires-clause-prepared : goal.learn-requires-clause-prepared
learn-requires-clause-prepared g c = c.unloads_far.ensures.alone.prepared

pub returns : goal.returns
returns g c =
    let m : Meaning = c.reserve.new.self in
    let n : Meaning = c.prepare-tick.new.self in
    let old : Meaning = c.unloads_far.new.core in
    let on : is_over (world_of m) ≡ false = search rules in
    let free : is_free m 1 ≡ true = search rules in
    let made : IsUntouched m n 1 = untouched_same m n 1 c.prepare-tick.ensures.prepared.opening c.prepare-tick.ensures.prepared.history m (untouched_here m 1) in
    let rests : IsUntouched m old 1 = c.unloads_far.ensures.untouched m (c.posts_far.ensures.untouched m (c.loads_far.ensures.untouched m made)) in
    record {
      opened = learnt_opens m old c.learn.new.self 0 1 1 c.prepare-tick.result c.prepare-tick.ensures.tick (may_begin (world_of m) 1 1 (and_parts _ _ free).0 on) rests c.learn.ensures;
      opening = c.learn.ensures.opening ∙ rests.opening ∙ c.in-Ok.ensures.same.opening;
      none = none_left old c.learn.new.self 1 c.unloads_far.ensures.alone c.learn.ensures.prepared;
    }
