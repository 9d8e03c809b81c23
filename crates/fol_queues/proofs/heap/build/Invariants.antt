use Rattle.std.proofs.Common.{length}
use Rattle.std.specs.List.Sorted.{IsPermutation}
use Rattle.std_alloc.proofs.HeapSift.{Building}
use Rattle.fol_queues.specs.Turn.{by_turn}
use Rattle.fol_queues.proofs.Turns.{by_turn_total}
use Rattle.fol_queues.proofs.heap.build.Given as goal

abbrev pub invariant-loop-at : goal.invariant-loop-at
invariant-loop-at l = record {
  same : IsPermutation l.fn.tasks l.tasks;
  building : Building by_turn by_turn_total l.tasks l.at (length l.fn.tasks);
}

abbrev pub decreases-loop-at : goal.decreases-loop-at
decreases-loop-at l = l.at
