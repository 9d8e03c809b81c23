use Rattle.std.proofs.Common.{◌-◌, length}
use Rattle.fol_split.proofs.Search.{IsSearch}
use Rattle.fol_split.proofs.runs.Runs.take_class.Given as goal

abbrev pub invariant-loop-next : goal.invariant-loop-next
invariant-loop-next l = IsSearch l.fn.self l.self l.merge l.fn.first l.next

abbrev pub decreases-loop-next : goal.decreases-loop-next
decreases-loop-next l = length l.fn.self.runs - l.next
