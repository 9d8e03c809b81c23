use Rattle.std.proofs.Common.{arith}
use Rattle.fol_chunks.proofs.walkers.Walkers.len.Goals as goal

pub returns-clause-few : goal.returns-clause-few
returns-clause-few c = omega (arith, c.len.ensures, c.self.inside.list.ok)
