use Rattle.std.proofs.Common.{arith}
use Rattle.std.specs.List.{IsDistinct}
use Rattle.std.specs.BinaryHeap.{IsHeap}
use Rattle.fol_queues.proofs.queues.Queues.new.Goals as goal

pub invariant_of-result : goal.invariant_of-result
unfolding IsDistinct IsHeap
invariant_of-result c = record {
  distinct = rw (c.new.ensures.items, c.new-2.ensures.items) tt;
  heap = rw c.new.ensures.items (λ p k d low a b l. absurd (omega arith));
  rising = rw c.new-2.ensures.items tt;
  room = omega arith;
}
