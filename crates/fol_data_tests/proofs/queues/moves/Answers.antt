use Rattle.std.proofs.Common.{◌∙◌, pos, ◌∷◌, [], arith, refl}
use Rattle.std.specs.List.Sorted.{IsStrictlySortedBy}
use borrow.Author.Differences.{ints}
use Rattle.fol_keyed.proofs.Filtered.{still_holds}
use Rattle.fol_queues.specs.Waiting.{dated, lies_listed, IsRaisable}
use Rattle.fol_data_tests.proofs.SingleTask.{one_raisable}
use Rattle.fol_data_tests.proofs.queues.moves.Goals as goal

pub accept-requires-clause-fresh : goal.accept-requires-clause-fresh
accept-requires-clause-fresh c = rw (c.in_ok-reserve.ensures.tasks, c.requires.here) refl

pub count_listed-requires : goal.count_listed-requires
unfolding IsStrictlySortedBy
count_listed-requires c = (tt, tt)

pub move_listed-requires-clause-order : goal.move_listed-requires-clause-order
unfolding IsStrictlySortedBy
move_listed-requires-clause-order c = (tt, tt)

pub move_listed-requires-clause-apart : goal.move_listed-requires-clause-apart
move_listed-requires-clause-apart c = λ n. rw (c.in_ok-reserve-2.ensures.tasks, c.requires.there) refl

pub move_listed-requires-clause-deadlines : goal.move_listed-requires-clause-deadlines
move_listed-requires-clause-deadlines c = λ n.
    still_holds (IsRaisable (pos 6)) (lies_listed (record { x = pos 4; z = pos 0 } ∷ [])) (dated c.accept.new.self n)
    (one_raisable c.reserve.new.self.tasks c.accept.new.self c.task.result.number (record { task = c.task.result; deadline = 3 }) (pos 6) (c.in_ok-reserve.ensures.tasks ∙ c.requires.here) c.accept.ensures.tasks
    (record { low = omega (arith, ints); high = omega (arith, ints) }) n)
