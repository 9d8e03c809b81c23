use Rattle.std.proofs.Common.{◌≡◌, ◌<◌, length, length-append, false, sym, ◌∙◌, ap, refl, arith, vec_len, ◌∷◌, []}
use Rattle.std.proofs.lemmas.Bool.{eqb-true, eqb-false, lt-leb}
use Rattle.std.proofs.lemmas.List.Elements.{at_read}
use Rattle.fol_queues.specs.Waiting.{is_due}
use Rattle.fol_queues.proofs.Parting.{due_moves, due_done, one_less}
use Rattle.fol_queues.proofs.Turns.{due_at, none_due}
use Rattle.fol_queues.proofs.walks.move_due.Goals as goal

pub loop-tasks-init : goal.loop-tasks-init
loop-tasks-init c = record { taking = λ xs h. h; room = c.requires.room; order = c.requires.order; capacity = refl }

pub push_reserved-requires : goal.push_reserved-requires
push_reserved-requires c =
    let due = due_at c.args.now c.loop-tasks.tasks.items 0 c.index.result.now c.take_first-task.result (omega arith) c.index.ensures c.if-index-now.true c.take_first-task.ensures.first in
    omega (arith, c.loop-tasks.invariant.room, one_less (is_due c.args.now) _ _ c.take_first-task.result c.take_first-task.ensures.same due)

pub loop-tasks-preserved : goal.loop-tasks-preserved
loop-tasks-preserved c =
    let inv = c.loop-tasks.invariant in
    let due = due_at c.args.now c.loop-tasks.tasks.items 0 c.index.result.now c.take_first-task.result (omega arith) c.index.ensures c.if-index-now.true c.take_first-task.ensures.first in
    let less = one_less (is_due c.args.now) _ _ c.take_first-task.result c.take_first-task.ensures.same due in
    record {
      taking = λ xs h. due_moves c.args.now xs _ _ _ _ c.take_first-task.result (inv.taking xs h) c.take_first-task.ensures.same due c.push_reserved.ensures.items;
      room = omega (arith, inv.room, less, ap length c.push_reserved.ensures.items, length-append c.loop-tasks.out.items (c.take_first-task.result.task ∷ []), c.push_reserved.ensures.capacity);
      order = c.take_first-task.ensures.order;
      capacity = c.take_first-task.ensures.capacity ∙ inv.capacity;
    }

pub returns-else-index-now-clause-parted : goal.returns-else-index-now-clause-parted
returns-else-index-now-clause-parted c = λ xs h.
    let not_empty : vec_len c.loop-tasks.tasks ≡ 0 → ⊥ = eqb-false (vec_len c.loop-tasks.tasks) 0 (sym c.is_empty.ensures ∙ c.loop-tasks-test.true) in
    let some : 0 < length c.loop-tasks.tasks.items = omega arith in
    let first = at_read c.loop-tasks.tasks.items (λ d. is_due c.args.now d ≡ false) 0 c.index.result.now some c.index.ensures (lt-leb _ c.args.now c.if-index-now.false) in
    due_done c.args.now _ _ _ (c.loop-tasks.invariant.taking xs h) (none_due c.args.now _ c.loop-tasks.invariant.order (λ d l. first d))

pub returns-after-loop-tasks-clause-parted : goal.returns-after-loop-tasks-clause-parted
returns-after-loop-tasks-clause-parted c = λ xs h.
    let empty : vec_len c.loop-tasks.tasks ≡ 0 = eqb-true (vec_len c.loop-tasks.tasks) 0 (sym c.is_empty.ensures ∙ c.loop-tasks-test.false) in
    due_done c.args.now _ _ _ (c.loop-tasks.invariant.taking xs h) (none_due c.args.now _ c.loop-tasks.invariant.order (λ d l. absurd (omega arith)))
