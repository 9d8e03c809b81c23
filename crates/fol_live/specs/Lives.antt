-- Which shared world it is.
use Rattle.std.specs.Prelude.{◌-◌}
use Rattle.fol_lock.specs.Lock.{lock_id, seat_count}
use Rattle.fol_slots.specs.Table.{slots_id}
use Rattle.fol_live.specs.declared.live.Live.{Live}
use Rattle.fol_live.specs.Seat.{LiveId}

-- no two worlds share it; each seat but seat 0 is a worker's
abbrev pub live_id : Live → LiveId
live_id live = record { lock = lock_id live.lock; slots = slots_id live.slots; workers = seat_count live.lock - 1 }
