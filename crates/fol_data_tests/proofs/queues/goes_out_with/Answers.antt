use Rattle.std.proofs.Common.{refl, arith}
use Rattle.std.proofs.lemmas.Bool.{ne_eqb}
use Rattle.fol_queues.specs.Waiting.{dated, is_due}
use Rattle.fol_data_tests.proofs.Taken.{dated_there, task_there, taken_apart, no_other}
use Rattle.fol_data_tests.proofs.queues.goes_out_with.Goals as goal

pub accept-requires-clause-fresh : goal.accept-requires-clause-fresh
accept-requires-clause-fresh c = rw (c.in_ok-reserve.ensures.tasks, c.requires) refl

pub give_back-list-requires-clause-fresh : goal.give_back-list-requires-clause-fresh
give_back-list-requires-clause-fresh c = λ n. rw (dated_there _ _ c.in_ok-due.ensures.left n, task_there _ _ c.in_ok-due.ensures.taken n) (taken_apart (is_due 1) (dated c.accept.new.self n))

pub accept-requires-2-clause-fresh : goal.accept-requires-2-clause-fresh
accept-requires-2-clause-fresh c =
    let n = c.task-2.result.number in
    rw (
      c.in_ok-reserve-2.ensures.tasks,
      dated_there _ _ c.give_back-list.ensures.tasks n,
      dated_there _ _ c.in_ok-due.ensures.left n,
      task_there _ _ c.in_ok-due.ensures.taken n,
    )
    (no_other (dated c.accept.new.self) c.task.result.number 1 c.task.result (rw (c.in_ok-reserve.ensures.tasks, c.requires) at c.accept.ensures.tasks) n
    (ne_eqb c.task.result.number n (λ e. omega (arith, e, c.task.ensures, c.task-2.ensures))))
