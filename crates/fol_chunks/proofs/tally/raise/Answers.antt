use Rattle.std.proofs.Common.{◌+◌, Some, arith}
use Rattle.fol_chunks.proofs.Tallies.{raised}
use Rattle.fol_chunks.proofs.tally.raise.Goals as goal

pub returns-clause-numbers : goal.returns-clause-numbers
returns-clause-numbers c = raised c.args.tally.now.entries _ c.args.key (Some (c.number_at.result + c.args.more)) c.in-Ok.ensures.updates.0 c.args.more (omega arith)
