use Rattle.std.proofs.Common.{rules}
use Rattle.fol_tick.proofs.ListCalls.{one_unload}
use Rattle.fol_tick.proofs.list_host.ListHostHost.unload.Goals as goal

pub returns-clause-answer : goal.returns-clause-answer
returns-clause-answer c = search rules

pub returns-clause-left : goal.returns-clause-left
returns-clause-left c = search rules

pub returns-clause-reaches : goal.returns-clause-reaches
returns-clause-reaches c = one_unload c.args.c _ _ _ (returns-clause-answer c) (returns-clause-left c)
