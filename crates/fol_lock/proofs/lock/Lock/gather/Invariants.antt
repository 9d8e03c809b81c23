use Rattle.std.proofs.Common.{◌≡◌, List, All, ◌++◌, vec_len}
use Rattle.fol_lock.specs.Seat.{Shown, IsIdle}
use Rattle.fol_lock.specs.Lock.{lock_id}
use Rattle.fol_lock.specs.Pass.{Gathers, HasClaim}
use Rattle.fol_lock.proofs.lock.Lock.gather.Given as goal

abbrev pub invariant-loop-seat : goal.invariant-loop-seat
invariant-loop-seat g l = record {
  table : l.gathered.table_id ≡ lock_id l.self;
  gathers : Gathers l.gathered.me;
  idle : All (IsIdle (lock_id l.self)) l.seats.items;
  taken : (rest : List (Shown g.row.S-Origin.Denot g.row.S-Entry.Denot)) × (l.fn.seats.items ≡ l.seats.items ++ rest) × All (HasClaim l.gathered.me.0) rest;
}

abbrev pub decreases-loop-seat : goal.decreases-loop-seat
decreases-loop-seat g l = vec_len l.seats
