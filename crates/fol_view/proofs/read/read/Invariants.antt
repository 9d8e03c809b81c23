use Rattle.left_right.specs.Sides.{view}
use Rattle.fol_view.specs.Looks.{KnowsBook}
use Rattle.fol_view.proofs.read.read.Given as goal

abbrev pub invariant-loop : goal.invariant-loop
invariant-loop g l =
    (goal.iterator-loop g).can_next l.iterator' × (goal.iterator-loop g).is_finite l.iterator' × KnowsBook (view l.reader.place) l.known.book
