use Rattle.fol_lock.specs.Lock.{lock_id}
use Rattle.fol_lock.specs.Seat.{IsIdle}
use Rattle.fol_bench.proofs.lock.take_turns.Given as goal

abbrev pub invariant-loop : goal.invariant-loop
invariant-loop g l = IsIdle (lock_id l.lock) l.seat
