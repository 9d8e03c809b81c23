use Rattle.std.specs.Prelude.{ℕ}
use Rattle.fol_lock.specs.Seat.{LockId}
use Rattle.fol_lock.specs.declared.lock.Lock.{Lock}

module _ {S O E : Type 0} where
  -- which lock it is
  abbrev pub lock_id : Lock S O E → LockId
  lock_id lock = lock.table.shared.table_id

  -- how many seats it dealt
  abbrev pub seat_count : Lock S O E → ℕ
  seat_count lock = lock.table.shared.key.count

  -- the origin of the state that it began with
  abbrev pub lock_origin : (S → O) → Lock S O E → O
  lock_origin origin_of lock = origin_of lock.table.shared.key.state.value
