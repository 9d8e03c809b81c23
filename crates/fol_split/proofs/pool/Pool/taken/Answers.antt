use Rattle.std.proofs.Common.{arith}
use Rattle.fol_split.proofs.Pools.{found_few}
use Rattle.fol_split.proofs.pool.Pool.taken.Goals as goal

pub returns-clause-bound : goal.returns-clause-bound
returns-clause-bound c = omega (arith, found_few _ _ c.self.invariant.0)
