use Rattle.std.proofs.Common.{◌∷◌, [], arith, length, length-append}
use Rattle.fol_split.specs.declared.spans.Span.{Span}
use Rattle.fol_split.proofs.Parting.{split_part}
use Rattle.fol_split.proofs.splitter.take_part.Goals as goal

pub returns-clause-after : goal.returns-clause-after
returns-clause-after c =
    let split = split_part c.args.pool.now c.take_class.new.self c.args.spans.now.items c.args.merge c.args.k c.requires.reach_low c.requires.before c.requires.in_place c.requires.sound c.requires.left
    c.take_class.ensures.class c.take_class.ensures.apart in
    let span : Span = record { from = length c.args.pool.now.found; to = length c.take_class.new.self.found } in
    let ok = c.push.ensures.succeeds (omega (arith, split.few, length-append c.args.spans.now.items (span ∷ []), c.taken.ensures.value, c.taken.ensures.bound, c.requires.room)) in
    let items = rw (ok, c.taken-from.ensures.value, c.taken.ensures.value) at c.push.ensures.items in
    rw items split

pub returns-clause-few : goal.returns-clause-few
returns-clause-few c =
    let split = split_part c.args.pool.now c.take_class.new.self c.args.spans.now.items c.args.merge c.args.k c.requires.reach_low c.requires.before c.requires.in_place c.requires.sound c.requires.left
    c.take_class.ensures.class c.take_class.ensures.apart in
    let span : Span = record { from = length c.args.pool.now.found; to = length c.take_class.new.self.found } in
    let ok = c.push.ensures.succeeds (omega (arith, split.few, length-append c.args.spans.now.items (span ∷ []), c.taken.ensures.value, c.taken.ensures.bound, c.requires.room)) in
    let items = rw (ok, c.taken-from.ensures.value, c.taken.ensures.value) at c.push.ensures.items in
    rw items (omega (arith, split.few, c.taken.ensures.value, c.taken.ensures.bound))
