use Rattle.std.proofs.Common.{◌≡◌, ◌+◌, ◌≤◌, List, length, vec_len}
use Rattle.std.specs.Prelude.{count_by}
use Rattle.std.specs.Vec.{vec_capacity}
use Rattle.std.specs.BinaryHeap.{IsHeap}
use Rattle.fol_queues.specs.declared.dated.Dated.{Dated}
use Rattle.fol_queues.specs.Parted.{IsTakingDue}
use Rattle.fol_queues.specs.Turn.{by_turn}
use Rattle.fol_queues.specs.Waiting.{is_due}
use Rattle.fol_queues.proofs.walks.move_due.Given as goal

abbrev pub invariant-loop-tasks : goal.invariant-loop-tasks
invariant-loop-tasks l = record {
  taking : (xs : List Dated) → IsTakingDue l.now xs l.fn.tasks.items l.fn.out.items → IsTakingDue l.now xs l.tasks.items l.out.items;
  room : length l.out.items + count_by (is_due l.now) l.tasks.items ≤ vec_capacity l.out;
  order : IsHeap by_turn l.tasks.items;
  capacity : vec_capacity l.tasks ≡ vec_capacity l.fn.tasks;
}

abbrev pub decreases-loop-tasks : goal.decreases-loop-tasks
decreases-loop-tasks l = vec_len l.tasks
