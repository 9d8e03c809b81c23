use Rattle.std.proofs.Common.{◌≡◌, length}
use Rattle.fol_io.specs.Left.{left_of}
use Rattle.fol_io.proofs.left.Left.has_row.Given as goal

abbrev pub invariant-loop-next : goal.invariant-loop-next
invariant-loop-next l = left_of l.self ≡ left_of l.initial.self

abbrev pub decreases-loop-next : goal.decreases-loop-next
decreases-loop-next l = length l.self.parts.now
