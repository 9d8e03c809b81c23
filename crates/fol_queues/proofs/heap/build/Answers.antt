use Rattle.std.proofs.Common.{arith, length}
use Rattle.std.proofs.lemmas.List.Sorted.{IsPermutation-refl, IsPermutation-trans}
use Rattle.std_alloc.proofs.HeapSift.{build_begins, build_steps, build_ends}
use Rattle.fol_queues.specs.Turn.{by_turn}
use Rattle.fol_queues.proofs.Turns.{by_turn_total}
use Rattle.fol_queues.proofs.heap.build.Goals as goal

pub loop-at-init : goal.loop-at-init
loop-at-init c = record { same = IsPermutation-refl _; building = build_begins by_turn by_turn_total _ _ }

pub loop-at-preserved : goal.loop-at-preserved
loop-at-preserved c = record {
  same = IsPermutation-trans _ _ _ c.loop-at.invariant.same c.sink.ensures.same;
  building = build_steps by_turn by_turn_total c.loop-at.tasks _ c.loop-at.at (length c.args.tasks.now) (omega arith) (rw c.loop-at.auto.tasks at c.sink.ensures.sinks) c.loop-at.invariant.building;
}

pub returns-clause-order : goal.returns-clause-order
returns-clause-order c = build_ends by_turn by_turn_total _ c.loop-at.at (length c.args.tasks.now) (omega arith) (omega arith) c.loop-at.invariant.building
