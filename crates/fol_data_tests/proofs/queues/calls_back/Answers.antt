use Rattle.std.proofs.Common.{◌+◌}
use Rattle.fol_queues.specs.Waiting.{dated, is_due}
use Rattle.fol_data_tests.proofs.Taken.{dated_there, task_there, taken_apart}
use Rattle.fol_data_tests.proofs.queues.calls_back.Goals as goal

pub give_back-list-requires-clause-fresh : goal.give_back-list-requires-clause-fresh
give_back-list-requires-clause-fresh c = λ n.
    rw (dated_there _ _ c.in_ok-due.ensures.left n, task_there _ _ c.in_ok-due.ensures.taken n) (taken_apart (is_due (c.args.begun + 1)) (dated c.args.queues.now n))
