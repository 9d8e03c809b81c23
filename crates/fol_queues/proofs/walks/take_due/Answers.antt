use Rattle.std.proofs.Common.{◌≡◌, sym, ◌∙◌, refl, arith, rules}
use Rattle.std.specs.Prelude.{count_by}
use Rattle.std.proofs.lemmas.Bool.{ltb-false}
use Rattle.std.proofs.lemmas.List.Sorted.{IsNonDecreasingBy-from_sort_by_key}
use Rattle.fol_model.specs.declared.tasks.Task.{Task}
use Rattle.fol_queues.specs.Again.{with_again}
use Rattle.fol_queues.specs.Parted.{DueParted}
use Rattle.fol_queues.specs.Waiting.{is_due}
use Rattle.fol_queues.proofs.Coming.{again_taken}
use Rattle.fol_queues.proofs.Parting.{all_fail, due_again, due_done, taking_count}
use Rattle.fol_queues.proofs.Queued.{takes_in_order}
use Rattle.fol_queues.proofs.walks.take_due.Goals as goal

pub returns-then-not-is_any_due-clause-parted : goal.returns-then-not-is_any_due-clause-parted
returns-then-not-is_any_due-clause-parted c =
    let told = rw c.deref.ensures.value at c.is_any_due.ensures in
    let none : count_by (is_due c.args.now) c.args.tasks.now.items ≡ 0 = omega (arith, ltb-false 0 (count_by (is_due c.args.now) c.args.tasks.now.items) (sym told ∙ c.if-not-is_any_due.true)) in
    rw c.swap.ensures.y_after
    (due_done c.args.now _ _ _ (again_taken c.args.now c.args.deadline c.args.tasks.now.items c.args.again.now.items _ c.if-deadline-now.true refl) (all_fail (is_due c.args.now) _ none))

pub move_due-requires-clause-room : goal.move_due-requires-clause-room
move_due-requires-clause-room c = omega (arith, taking_count c.args.now _ _ _ c.move_again.ensures.taking, c.requires.room, c.move_again.ensures.out_capacity)

-- what was taken, in order of number
parted : (c : goal.After-sort_unstable_by_key) → DueParted c.args.now (with_again c.args.tasks.now.items c.args.again.now.items c.args.deadline) c.move_due.new.tasks.items c.sort_unstable_by_key.new.self.items
parted c = due_again c.args.now _ _ _ _ c.sort_unstable_by_key.ensures.permutation (c.move_due.ensures.parted _ c.move_again.ensures.taking)

pub returns-else-deadline-now-clause-parted : goal.returns-else-deadline-now-clause-parted
returns-else-deadline-now-clause-parted c = parted c

pub returns-else-deadline-now-clause-rising : goal.returns-else-deadline-now-clause-rising
returns-else-deadline-now-clause-rising c =
    takes_in_order _ c.args.now _ _ (parted c) c.requires.queue.distinct
    (IsNonDecreasingBy-from_sort_by_key (λ (t : Task). t.number) _ c.sort_unstable_by_key.ensures.sorted (λ a r q k. search rules))
