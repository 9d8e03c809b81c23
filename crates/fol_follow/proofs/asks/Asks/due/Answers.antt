use Rattle.std.proofs.Common.{get_or, pos, subst, List}
use Rattle.std.proofs.lemmas.List.{take_all}
use Rattle.fol_keyed.proofs.Keyed.{at_own}
use Rattle.fol_follow.specs.declared.entries.EntityAt.{EntityAt}
use Rattle.fol_follow.specs.Table.{count_of}
use Rattle.fol_follow.proofs.Collecting.{IsGathering, gathering_begins, in_order, next_apart, next_gathered}
use Rattle.fol_follow.proofs.asks.Asks.due.Goals as goal

pub collect-requires-clause-apart : goal.collect-requires-clause-apart
collect-requires-clause-apart c =
    let d : EntityAt = record { id = 0; at = record { x = pos 0; y = pos 0; z = pos 0 } } in
    next_apart (count_of c.args.self.now) c.args.self.now.rows c.args.here.now c.loop-place.place-index (get_or c.args.here.now c.loop-place.place-index d) c.requires.order c.loop-place-test.true (at_own c.args.here.now c.loop-place.place-index d c.loop-place-test.true)
    c.loop-place.visits.items c.loop-place.invariant

pub loop-place-preserved : goal.loop-place-preserved
loop-place-preserved c =
    let d : EntityAt = record { id = 0; at = record { x = pos 0; y = pos 0; z = pos 0 } } in
    next_gathered (count_of c.args.self.now) c.args.self.now.rows c.args.here.now c.loop-place.place-index (get_or c.args.here.now c.loop-place.place-index d) c.requires.order c.loop-place-test.true (at_own c.args.here.now c.loop-place.place-index d c.loop-place-test.true)
    c.loop-place.visits.items c.loop-place.invariant c.collect.new.visits.items c.in_ok-collect.ensures.distinct c.in_ok-collect.ensures.visits

pub loop-place-init : goal.loop-place-init
loop-place-init c = rw c.new-visits.ensures.items (gathering_begins (count_of c.args.self.now) c.args.self.now.rows)

pub returns : goal.returns
returns c =
    let P : List EntityAt → Type 0 = λ xs. IsGathering (count_of c.args.self.now) c.args.self.now.rows xs c.loop-place.visits.items in
    in_order (count_of c.args.self.now) c.args.self.now.rows c.args.here.now c.loop-place.visits.items c.sort.new.visits.items
    (subst P (take_all c.loop-place.place-index c.args.here.now c.loop-place-test.false) c.loop-place.invariant) c.sort.ensures.same c.sort.ensures.order
