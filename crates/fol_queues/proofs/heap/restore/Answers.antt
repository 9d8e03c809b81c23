use Rattle.std.proofs.Common.{arith}
use Rattle.std.proofs.lemmas.List.Sorted.{IsPermutation-refl, IsPermutation-trans}
use Rattle.std_alloc.proofs.HeapSift.{Take-ends, take_begins, take_steps}
use Rattle.fol_queues.specs.Turn.{by_turn}
use Rattle.fol_queues.proofs.Turns.{by_turn_total}
use Rattle.fol_queues.proofs.heap.restore.Goals as goal

pub loop-at-init : goal.loop-at-init
loop-at-init c = record { same = IsPermutation-refl _; taking = take_begins by_turn by_turn_total _ _ }

pub loop-at-preserved : goal.loop-at-preserved
loop-at-preserved c = record {
  same = IsPermutation-trans _ _ _ c.loop-at.invariant.same c.rise.ensures.same;
  taking = take_steps by_turn by_turn_total _ _ _ c.args.ordered c.loop-at.at c.rise.ensures.rises c.loop-at.invariant.taking;
}

pub returns-clause-same : goal.returns-clause-same
returns-clause-same c = c.loop-at.invariant.same

pub returns-clause-order : goal.returns-clause-order
returns-clause-order c = Take-ends by_turn by_turn_total _ _ c.args.ordered c.loop-at.at (omega arith) c.loop-at.invariant.taking
