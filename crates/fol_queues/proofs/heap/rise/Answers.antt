use Rattle.std.proofs.Common.{arith}
use Rattle.std.proofs.lemmas.List.Sorted.{IsPermutation-refl, IsPermutation-trans}
use Rattle.std_alloc.proofs.HeapSift.{rise_begins, rise_steps, rise_tops, rise_rests}
use Rattle.fol_queues.specs.Turn.{by_turn}
use Rattle.fol_queues.proofs.Turns.{by_turn_total}
use Rattle.fol_queues.proofs.heap.rise.Goals as goal

pub loop-at-init : goal.loop-at-init
loop-at-init c = record { same = IsPermutation-refl _; rising = rise_begins by_turn by_turn_total _ _; bound = omega arith }

pub returns-then-not-is_later-clause-rises : goal.returns-then-not-is_later-clause-rises
returns-then-not-is_later-clause-rises c =
    rise_rests by_turn by_turn_total _ _ _ c.loop-at.at (rw c.if-not-is_later.true at c.is_later.ensures) c.loop-at.invariant.rising

pub loop-at-preserved : goal.loop-at-preserved
loop-at-preserved c = record {
  same = IsPermutation-trans _ _ _ c.loop-at.invariant.same c.swap.ensures.permutation;
  rising =
      rise_steps by_turn by_turn_total _ _ _ c.args.start c.loop-at.at (omega arith) c.loop-at.invariant.bound (omega arith) c.swap.ensures.after
      (rw c.if-not-is_later.false at c.is_later.ensures) c.loop-at.invariant.rising;
  bound = omega arith;
}

pub returns-clause-rises : goal.returns-clause-rises
returns-clause-rises c = rise_tops by_turn by_turn_total _ _ _ c.loop-at.at (omega arith) c.loop-at.invariant.rising
