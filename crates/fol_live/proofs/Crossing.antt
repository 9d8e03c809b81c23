-- Seats may go to another thread, and threads may share the world.
use denote.Param.Send.{IsSend, IsSync, sendable}
use denote.Param.SendFields.{as_row_send, declared_sync}
use Rattle.std.proofs.Crossing.{Box-send}
use Rattle.fol_model.specs.contracts.events.Entry as entry
use Rattle.fol_lock.proofs.lock.Lock.TheSendSync as locks
use Rattle.fol_lock.proofs.seat.Seat.TheSendSync as seats
use Rattle.fol_offers.proofs.Crossing.{Offer-send, Offers-send}
use Rattle.fol_slots.proofs.seat.WorkerSeat.TheSendSync as workers
use Rattle.fol_slots.proofs.slots.Slots.TheSendSync as slots
use Rattle.fol_live.specs.contracts.hand.Hand as hand
use Rattle.fol_live.specs.contracts.live.Live as live
use Rattle.fol_live.specs.contracts.origin.Origin as origin
use Rattle.fol_live.specs.contracts.seat.Seat as seat
use Rattle.fol_live.specs.contracts.world.World as world
use Rattle.fol_live.specs.contracts.world.WorldKept.TheImpl as kept

World-send : IsSend (world.the_field).row
World-send = search (sendable, Offers-send, Box-send) depth 14

Hand-send : IsSend (hand.the_field).row
Hand-send = search (sendable, workers.the_send, Offer-send) depth 14

pub Seat-send : IsSend (seat.the_field).row
Seat-send = search (sendable, World-send, seats.the_send, Hand-send) depth 14

pub Live-sync : IsSync live.the_row
Live-sync = declared_sync live.the_type (
  locks.the_sync world.the_row origin.the_row entry.the_row kept.ghosts (as_row_send world.the_field World-send),
  (search (sendable, slots.the_sync, Offer-send) depth 14, tt),
)
