use Rattle.std.proofs.Common.{arith, pos, [], ◌∷◌}
use Rattle.std.specs.List.Sorted.{IsStrictlySortedBy}
use Rattle.fol_queues.specs.Waiting.{dated}
use Rattle.fol_chunks.specs.Contents.{flat_of, within, is_listed}
use Rattle.fol_data_tests.proofs.SingleTask.{one_in_time, apart_from_nothing}
use Rattle.fol_data_tests.proofs.region_moves.moved_into.Goals as goal

pub size_listed-requires : goal.size_listed-requires
unfolding IsStrictlySortedBy
size_listed-requires c = (tt, tt)

pub move_listed-requires-clause-order : goal.move_listed-requires-clause-order
unfolding IsStrictlySortedBy
move_listed-requires-clause-order c = (tt, tt)

pub move_listed-requires-clause-in_time : goal.move_listed-requires-clause-in_time
move_listed-requires-clause-in_time c =
    let accepted = rw c.in_ok-other.ensures.tasks at c.accept.ensures.tasks in
    let tick = c.in_ok-other.ensures.tick in
    one_in_time c.in_ok-other.other.tick _ _ (dated c.accept.new.self) accepted (record { low = omega arith; high = omega arith })

pub move_listed-requires-clause-contents_apart : goal.move_listed-requires-clause-contents_apart
move_listed-requires-clause-contents_apart c = apart_from_nothing (flat_of c.reserve.new.self.chunks) (within (is_listed (record { x = pos 0; z = pos 0 } ∷ [])) (flat_of c.set.new.self)) (rw c.in_ok-reserve.ensures.contents c.requires.contents)
