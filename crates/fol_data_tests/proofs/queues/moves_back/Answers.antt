use Rattle.std.proofs.Common.{pos, ◌∷◌, [], arith, refl}
use Rattle.std.specs.List.Sorted.{IsStrictlySortedBy}
use borrow.Author.Differences.{ints}
use Rattle.fol_keyed.proofs.Filtered.{still_holds}
use Rattle.fol_queues.specs.Waiting.{dated, is_due, lies_listed, IsRaisable}
use Rattle.fol_data_tests.proofs.Taken.{dated_there, task_there, taken_apart, one_back}
use Rattle.fol_data_tests.proofs.queues.moves_back.Goals as goal

pub accept-requires-clause-fresh : goal.accept-requires-clause-fresh
accept-requires-clause-fresh c = rw (c.in_ok-reserve.ensures.tasks, c.requires.here) refl

pub give_back-list-requires-clause-fresh : goal.give_back-list-requires-clause-fresh
give_back-list-requires-clause-fresh c = λ n. rw (dated_there _ _ c.in_ok-due.ensures.left n, task_there _ _ c.in_ok-due.ensures.taken n) (taken_apart (is_due 3) (dated c.accept.new.self n))

pub count_listed-requires : goal.count_listed-requires
unfolding IsStrictlySortedBy
count_listed-requires c = (tt, tt)

pub move_listed-requires-clause-order : goal.move_listed-requires-clause-order
unfolding IsStrictlySortedBy
move_listed-requires-clause-order c = (tt, tt)

pub move_listed-requires-clause-apart : goal.move_listed-requires-clause-apart
move_listed-requires-clause-apart c = λ n. rw (c.in_ok-reserve-2.ensures.tasks, c.requires.there) refl

pub move_listed-requires-clause-deadlines : goal.move_listed-requires-clause-deadlines
move_listed-requires-clause-deadlines c = λ n.
    still_holds (IsRaisable (pos 6)) (lies_listed (record { x = pos 4; z = pos 0 } ∷ [])) (dated c.give_back-list.new.self n)
    (rw (dated_there _ _ c.give_back-list.ensures.tasks n, dated_there _ _ c.in_ok-due.ensures.left n, task_there _ _ c.in_ok-due.ensures.taken n)
    (one_back (dated c.accept.new.self) c.task.result.number 3 c.task.result (rw (c.in_ok-reserve.ensures.tasks, c.requires.here) at c.accept.ensures.tasks) (IsRaisable (pos 6))
    (record { low = omega (arith, ints); high = omega (arith, ints) }) n))
