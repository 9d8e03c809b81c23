use Rattle.fol_queues.specs.Waiting.{dated, is_due}
use Rattle.fol_data_tests.proofs.Taken.{dated_there, task_there, first_apart, second_apart}
use Rattle.fol_data_tests.proofs.queues.come_back_apart.Goals as goal

pub give_back-list-requires-clause-fresh : goal.give_back-list-requires-clause-fresh
give_back-list-requires-clause-fresh c = λ n.
    rw (dated_there _ _ c.in_ok-second.ensures.left n, dated_there _ _ c.in_ok-first.ensures.left n, task_there _ _ c.in_ok-first.ensures.taken n) (first_apart (is_due 1) (is_due 3) (dated c.args.queues.now n))

pub give_back-other-requires-clause-fresh : goal.give_back-other-requires-clause-fresh
give_back-other-requires-clause-fresh c = λ n.
    rw (
      dated_there _ _ c.give_back-list.ensures.tasks n,
      dated_there _ _ c.in_ok-second.ensures.left n,
      task_there _ _ c.in_ok-second.ensures.taken n,
      dated_there _ _ c.in_ok-first.ensures.left n,
      task_there _ _ c.in_ok-first.ensures.taken n,
    )
    (second_apart (is_due 1) (is_due 3) 1 (dated c.args.queues.now n))
