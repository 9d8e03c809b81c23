use Rattle.std.proofs.Common.{◌≡◌}
use Rattle.fol_lock.specs.Lock.{lock_id}
use Rattle.fol_lock.specs.Seat.{IsIdle}
use Rattle.fol_shared_tests.proofs.lock.count_up.Given as goal

abbrev pub invariant-loop-value : goal.invariant-loop-value
invariant-loop-value g l = IsIdle (lock_id l.lock) l.seat × (l.seat.number ≡ l.initial.seat.number)
