use Rattle.std.proofs.Common.{◌≡◌, ◌<◌, ◌∷◌, [], length, length-append, get_or, true, false, sym, ◌∙◌, ap, refl, arith, w64}
use Rattle.std.proofs.lemmas.Int.{to_z-of_z}
use Rattle.std.proofs.lemmas.List.{get_or_append_left}
use Rattle.std.specs.Prelude.{IsTrue, Contains}
use Rattle.std.proofs.lemmas.List.Elements.{at_read, All-contains}
use Rattle.std.proofs.lemmas.List.Sorted.{IsPermutation-refl}
use Rattle.fol_queues.specs.Waiting.{lies_listed, IsRaisable}
use Rattle.fol_queues.specs.declared.dated.Dated.{Dated}
use Rattle.fol_queues.proofs.Parting.{moving_none, moving_stays, moving_moves, moving_done, moving_room, still_there}
use Rattle.fol_queues.proofs.walks.move_listed.Goals as goal

pub loop-i-init : goal.loop-i-init
loop-i-init c = record { moving = moving_none _ _ _ _; first = λ k d l. refl; longer = omega arith; bound = omega arith; capacity = refl; into_capacity = refl }

pub raised-requires : goal.raised-requires
raised-requires c =
    let in_range : c.loop-i.i < length c.loop-i.tasks.items = omega arith in
    let there : Contains c.args.tasks.now.items (get_or c.loop-i.tasks.items c.loop-i.i c.swap_remove-task.result) =
    still_there (lies_listed c.args.list.now.chunks.now) _ _ _ c.loop-i.i c.swap_remove-task.result c.loop-i.invariant.moving.parting.all in_range in
    let all = at_read c.loop-i.tasks.items (λ d. lies_listed c.args.list.now.chunks.now d ≡ true) c.loop-i.i c.index.result.now in_range c.index.ensures (sym c.has.ensures ∙ c.if-has.true) in
    let one : lies_listed c.args.list.now.chunks.now c.swap_remove-task.result ≡ true = ap (λ (d : Dated). lies_listed c.args.list.now.chunks.now d) c.swap_remove-task.ensures.value ∙ all c.swap_remove-task.result in
    rw (to_z-of_z w64 c.args.offset c.ranges.offset)
    (All-contains (λ d. IsTrue (lies_listed c.args.list.now.chunks.now d) → IsRaisable c.args.offset d) _ c.swap_remove-task.result c.requires.deadlines (rw (← c.swap_remove-task.ensures.value) at there) one)

pub push_reserved-requires : goal.push_reserved-requires
push_reserved-requires c =
    let in_range : c.loop-i.i < length c.loop-i.tasks.items = omega arith in
    let one : lies_listed c.args.list.now.chunks.now (get_or c.loop-i.tasks.items c.loop-i.i c.index.result.now) ≡ true =
    ap (λ (d : Dated). lies_listed c.args.list.now.chunks.now d) (sym c.index.ensures) ∙ sym c.has.ensures ∙ c.if-has.true in
    omega (arith, moving_room (lies_listed c.args.list.now.chunks.now) _ _ _ _ _ c.loop-i.i c.index.result.now c.loop-i.invariant.moving in_range one)

pub loop-i-preserved-then-has : goal.loop-i-preserved-then-has
loop-i-preserved-then-has c =
    let in_range : c.loop-i.i < length c.loop-i.tasks.items = omega arith in
    let all = at_read c.loop-i.tasks.items (λ d. lies_listed c.args.list.now.chunks.now d ≡ true) c.loop-i.i c.index.result.now in_range c.index.ensures (sym c.has.ensures ∙ c.if-has.true) in
    let pushed = c.push_reserved.ensures.items in
    record {
      moving =
          moving_moves (lies_listed c.args.list.now.chunks.now) _ _ _ _ _ _ _ c.loop-i.i c.swap_remove-task.result c.loop-i.invariant.moving in_range c.swap_remove-task.ensures.value all c.swap_remove-task.ensures.items
          (λ k d low. c.swap_remove-task.ensures.by_index.1 k d (λ e. omega arith) (omega arith)) (rw (c.push_reserved.ensures.items, c.raised.ensures) (IsPermutation-refl _));
      first = λ k d l. rw pushed (get_or_append_left c.loop-i.into.items (c.raised.result ∷ []) d k (omega (arith, l, c.loop-i.invariant.longer))) ∙ c.loop-i.invariant.first k d l;
      longer = omega (arith, c.loop-i.invariant.longer, ap length pushed, length-append c.loop-i.into.items (c.raised.result ∷ []));
      bound = omega arith;
      capacity = c.swap_remove-task.ensures.capacity ∙ c.loop-i.invariant.capacity;
      into_capacity = c.push_reserved.ensures.capacity ∙ c.loop-i.invariant.into_capacity;
    }

pub loop-i-preserved : goal.loop-i-preserved
loop-i-preserved c =
    let in_range : c.loop-i.i < length c.loop-i.tasks.items = omega arith in
    let fails = at_read c.loop-i.tasks.items (λ d. lies_listed c.args.list.now.chunks.now d ≡ false) c.loop-i.i c.index.result.now in_range c.index.ensures (sym c.has.ensures ∙ c.if-has.false) in
    record {
      moving = moving_stays (lies_listed c.args.list.now.chunks.now) _ _ _ _ _ c.loop-i.i c.loop-i.invariant.moving fails;
      first = c.loop-i.invariant.first;
      longer = c.loop-i.invariant.longer;
      bound = omega arith;
      capacity = c.loop-i.invariant.capacity;
      into_capacity = c.loop-i.invariant.into_capacity;
    }

pub returns-clause-moved : goal.returns-clause-moved
returns-clause-moved c = rw (to_z-of_z w64 c.args.offset c.ranges.offset) at (moving_done _ _ _ _ _ _ c.loop-i.i c.loop-i.invariant.moving (omega arith))
