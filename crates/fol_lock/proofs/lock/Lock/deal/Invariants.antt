use Rattle.std.proofs.Common.{◌≡◌, ◌≤◌, [], vec_capacity}
use Rattle.fol_lock.specs.Seat.{AreNew}
use Rattle.fol_lock.specs.View.{dealer}
use Rattle.fol_lock.specs.Lock.{lock_id, lock_origin}
use Rattle.fol_lock.proofs.lock.Lock.deal.Given as goal

abbrev pub invariant-loop-number : goal.invariant-loop-number
invariant-loop-number g l = record {
  table : l.first.table_id ≡ lock_id l.self;
  me : l.first.me ≡ (dealer l.number (lock_origin g.S.Kept.origin l.self), []);
  new : AreNew (lock_id l.self) (lock_origin g.S.Kept.origin l.self) l.number l.seats.items;
  room : l.count ≤ vec_capacity l.seats;
}
