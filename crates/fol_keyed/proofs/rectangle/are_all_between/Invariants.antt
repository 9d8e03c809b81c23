use Rattle.fol_keyed.proofs.Rectangles.{IsFilled}
use Rattle.fol_keyed.proofs.rectangle.are_all_between.Given as goal

abbrev pub invariant-loop-i : goal.invariant-loop-i
invariant-loop-i l = IsFilled l.first l.last l.chunks l.i
