use Rattle.fol_sections.specs.SquareRuns.{rest}
use Rattle.fol_sections.proofs.SquareWalks.{come_next}
use Rattle.fol_sections.proofs.walks.SquareRuns.leave_row.Goals as goal

pub returns-then-self-clause-rest : goal.returns-then-self-clause-rest
unfolding rest
returns-then-self-clause-rest c = let w = c.args.self.now in come_next w.first.x w.first.z w.side w.row w.column c.if-self.true (c.requires c.if-self.true)
