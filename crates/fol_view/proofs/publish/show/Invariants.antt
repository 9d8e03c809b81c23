use Rattle.std.proofs.Common.{◌≡◌}
use Rattle.fol_view.specs.Boards.{MayShow}
use Rattle.fol_view.proofs.publish.show.Given as goal

abbrev pub invariant-loop : goal.invariant-loop
invariant-loop g l =
    (goal.iterator-loop g).can_next l.iterator' × (goal.iterator-loop g).is_finite l.iterator'
    × (l.shown ≡ l.initial.shown) × MayShow l.writer.desk.shown.value l.shown
