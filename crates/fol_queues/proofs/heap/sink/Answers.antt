use Rattle.std.proofs.Common.{length, arith}
use Rattle.std.proofs.lemmas.List.Sorted.{IsPermutation-refl, IsPermutation-trans}
use Rattle.std_alloc.proofs.HeapSift.{sink_begins, sink_steps, sink_ends, sink_rests}
use Rattle.fol_queues.specs.Turn.{by_turn}
use Rattle.fol_queues.proofs.Turns.{by_turn_total}
use Rattle.fol_queues.proofs.heap.sink.Goals as goal

pub loop-at-init : goal.loop-at-init
loop-at-init c = record { same = IsPermutation-refl _; sinking = sink_begins by_turn by_turn_total _ _ _; bound = omega arith }

pub returns-then-not-is_later-clause-sinks : goal.returns-then-not-is_later-clause-sinks
returns-then-not-is_later-clause-sinks c =
    sink_rests by_turn by_turn_total _ _ c.args.start _ c.loop-at.at c.first_child-child.result (rw c.loop-at.auto.tasks at c.first_child-child.ensures.best)
    (rw c.if-not-is_later.true at c.is_later.ensures) c.loop-at.invariant.sinking

pub loop-at-smaller : goal.loop-at-smaller
loop-at-smaller c = omega (arith, c.first_child-child.ensures.bound)

pub loop-at-preserved : goal.loop-at-preserved
loop-at-preserved c = record {
  same = IsPermutation-trans _ _ _ c.loop-at.invariant.same c.swap.ensures.permutation;
  sinking =
      sink_steps by_turn by_turn_total _ _ _ c.args.start (length c.args.tasks.now) c.loop-at.at c.first_child-child.result c.loop-at.invariant.bound
      (omega (arith, c.first_child-child.ensures.bound)) (omega (arith, c.first_child-child.ensures.bound)) (omega (arith, c.first_child-child.ensures.bound)) (omega arith) c.swap.ensures.after
      (rw c.loop-at.auto.tasks at c.first_child-child.ensures.best) (rw c.if-not-is_later.false at c.is_later.ensures) c.loop-at.invariant.sinking;
  bound = omega (arith, c.first_child-child.ensures.bound);
}

pub returns-clause-sinks : goal.returns-clause-sinks
returns-clause-sinks c = sink_ends by_turn by_turn_total _ _ c.args.start _ c.loop-at.at (omega arith) c.loop-at.invariant.sinking
