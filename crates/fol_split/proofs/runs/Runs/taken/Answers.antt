use Rattle.std.proofs.Common.{arith}
use Rattle.fol_split.proofs.Taking.{class_few}
use Rattle.fol_split.proofs.runs.Runs.taken.Goals as goal

pub returns-clause-bound : goal.returns-clause-bound
returns-clause-bound c = rw (← c.self.view_is) (omega (arith, class_few _ c.self.invariant.0))
