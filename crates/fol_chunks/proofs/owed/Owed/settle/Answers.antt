use Rattle.std.proofs.Common.{sym, arith}
use Rattle.fol_chunks.proofs.Owing.{none_owed}
use Rattle.fol_chunks.proofs.owed.Owed.settle.Goals as goal

pub returns-else-self-gt0-clause-paid : goal.returns-else-self-gt0-clause-paid
returns-else-self-gt0-clause-paid c = sym (none_owed c.args.self.now c.args.entities.now.items (omega (arith, c.if-self-gt0.false)))
