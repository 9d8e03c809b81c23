use Rattle.std.specs.List.Sorted.{IsPermutation}
use Rattle.std_alloc.proofs.HeapSift.{Taking}
use Rattle.fol_queues.specs.Turn.{by_turn}
use Rattle.fol_queues.proofs.Turns.{by_turn_total}
use Rattle.fol_queues.proofs.heap.restore.Given as goal

abbrev pub invariant-loop-at : goal.invariant-loop-at
invariant-loop-at l = record {
  same : IsPermutation l.fn.tasks l.tasks;
  taking : Taking by_turn by_turn_total l.fn.tasks l.fn.ordered l.tasks l.at;
}
