use Rattle.std.proofs.Common.{◌≡◌, ◌+◌, ◌≤◌, length, vec_len}
use Rattle.std.specs.List.Sorted.{IsPermutation}
use Rattle.std.specs.BinaryHeap.{IsHeap}
use Rattle.std.specs.Vec.{vec_capacity}
use Rattle.fol_queues.specs.Again.{with_again}
use Rattle.fol_queues.specs.Turn.{by_turn}
use Rattle.fol_queues.proofs.again.put_back.Given as goal

abbrev pub invariant-loop-task : goal.invariant-loop-task
invariant-loop-task l = record {
  room : vec_len l.tasks + length l.again.items ≤ vec_capacity l.tasks;
  back : IsPermutation (with_again l.fn.tasks.items l.fn.again.items l.deadline) (with_again l.tasks.items l.again.items l.deadline);
  order : IsHeap by_turn l.tasks.items;
  capacity : vec_capacity l.tasks ≡ vec_capacity l.fn.tasks;
}

abbrev pub decreases-loop-task : goal.decreases-loop-task
decreases-loop-task l = vec_len l.again
