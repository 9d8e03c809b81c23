use Rattle.std.proofs.Common.{arith}
use Rattle.std.proofs.lemmas.List.Sums.{count_by-le-length}
use Rattle.fol_queues.specs.Waiting.{is_due}
use Rattle.fol_store.proofs.store.due_at_most.Goals as goal

pub returns-then-all-le-FEW_TASKS-clause-most : goal.returns-then-all-le-FEW_TASKS-clause-most
returns-then-all-le-FEW_TASKS-clause-most c = omega (arith, count_by-le-length (is_due c.args.now) c.args.queues.now.tasks)
