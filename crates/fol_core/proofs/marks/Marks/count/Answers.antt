use Rattle.std.proofs.Common.{arith}
use Rattle.fol_core.proofs.MarkCounts.{count_few}
use Rattle.fol_core.proofs.marks.Marks.count.Goals as goal

pub returns-clause-few : goal.returns-clause-few
returns-clause-few c = omega (arith, c.self.invariant, count_few c.self.inside.marks.items, c.self.inside.marks.ok)
