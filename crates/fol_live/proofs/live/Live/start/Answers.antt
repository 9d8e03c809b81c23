use Rattle.fol_lock.specs.Lock.{lock_id, seat_count}
use Rattle.fol_slots.specs.Table.{slots_id}
use Rattle.fol_live.proofs.Dealing.{starts}
use Rattle.fol_live.proofs.live.Live.start.Goals as goal

pub returns-clause-seats : goal.returns-clause-seats
returns-clause-seats c =
    starts (lock_id c.in_ok-lock.field-0.lock) (slots_id c.in_ok-world.field-0.slots) c.args.opening c.args.callers (seat_count c.in_ok-lock.field-0.lock) c.in_ok-world.field-0.world
    c.into_vec.result.items c.into_vec-2.result.items c.in_ok-seats.seats.items c.in_ok-world.ensures.world c.requires.count.0 c.in_ok-lock.ensures.count
    (rw c.into_vec.ensures c.in_ok-lock.ensures.seats) (rw c.into_vec-2.ensures c.in_ok-world.ensures.seats) c.in_ok-seats.ensures
