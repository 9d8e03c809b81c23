use Rattle.std.proofs.Common.{◌≡◌}
use Rattle.std.specs.Vec.{vec_capacity}
use Rattle.fol_queues.specs.Again.{with_again}
use Rattle.fol_queues.proofs.again.joined.Given as goal

abbrev pub invariant-loop-task : goal.invariant-loop-task
invariant-loop-task l = record {
  items : l.joined.items ≡ with_again l.fn.tasks.items l.yielded l.deadline;
  capacity : vec_capacity l.joined ≡ vec_capacity l.fn.tasks;
}
