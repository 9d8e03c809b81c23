use Rattle.std.proofs.Common.{◌≡◌, ◌∙◌, ap, rules, Bool, true, false, ℕ}
use Rattle.std.proofs.lemmas.Bool.{and_parts}
use Rattle.fol_laws.proofs.FunctionsChanged.{at_here}
use Rattle.fol_core.specs.Answers.{is_free, is_over}
use Rattle.fol_core.specs.Meaning.{Meaning, is_prepared, world_of}
use Rattle.fol_tick_laws.proofs.OpenTicks.{learnt_opens, may_begin, untouched_here, untouched_same}
use Rattle.fol_tick_laws.proofs.Unprepared.{none_learnt}
use Rattle.fol_tick_laws.proofs.early.begins_late.Goals as goal

pub learn-requires-clause-prepared : goal.learn-requires-clause-prepared
learn-requires-clause-prepared g c = ap (λ (p : ℕ → Bool). p 1) c.prepare-tick.ensures.prepared.prepared ∙ at_here (is_prepared c.takes_back.new.core) 1 _

pub returns-clause-opened : goal.returns-clause-opened
returns-clause-opened g c =
    let m : Meaning = c.takes_back.new.core in
    let n : Meaning = c.prepare-tick.new.self in
    let on : is_over (world_of m) ≡ false = search rules in
    let free : is_free m 1 ≡ true = search rules in
    let rests = untouched_same m n 1 c.prepare-tick.ensures.prepared.opening c.prepare-tick.ensures.prepared.history m (untouched_here m 1) in
    learnt_opens m n c.learn.new.self 0 1 1 c.prepare-tick.result c.prepare-tick.ensures.tick (may_begin (world_of m) 1 1 (and_parts _ _ free).0 on) rests c.learn.ensures

pub returns-clause-none : goal.returns-clause-none
returns-clause-none g c =
    none_learnt c.takes_back.new.core c.prepare-tick.new.self c.learn.new.self 1 c.takes_back.ensures.none c.prepare-tick.ensures.prepared.prepared c.learn.ensures.prepared
