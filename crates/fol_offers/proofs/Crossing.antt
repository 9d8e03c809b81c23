-- Ticks that are offered may go to another thread, and so may the core with them.
use denote.Param.Send.{IsSend, sendable}
use denote.Param.SendFields.{as_row_send, declared_send}
use Rattle.std.proofs.Crossing.{Box-send, Vec-send}
use Rattle.fol_core.proofs.Crossing.{Core-send}
use Rattle.fol_core.specs.contracts.machine.Core as core
use Rattle.fol_data.proofs.Crossing.{RegionData-send}
use Rattle.fol_data.specs.contracts.tick.Tick as tick
use Rattle.fol_keyed.proofs.Crossing.{ChunkSet-send}
use Rattle.fol_model.proofs.Crossing.{Sequence-send, Task-send, TickLog-send}
use Rattle.fol_slots.proofs.seat.KeeperSeat.TheSendSync as keepers
use Rattle.fol_offers.specs.contracts.boxes.Boxes as boxes
use Rattle.fol_offers.specs.contracts.offer.Offer as offer
use Rattle.fol_offers.specs.contracts.offer.Offer.TheInside as body
use Rattle.fol_offers.specs.contracts.offers.Offers as offers
use Rattle.fol_offers.specs.contracts.offers.Offers.TheInside as inside
use Rattle.fol_offers.specs.contracts.places.Places as places

pub Tick-send : IsSend (tick.the_field).row
Tick-send = search (sendable, ChunkSet-send, Sequence-send, Task-send, RegionData-send, TickLog-send) depth 20

body_send : IsSend body.the_row
body_send = declared_send body.the_type (search (sendable, as_row_send, Tick-send, Box-send) depth 14, tt)

pub Offer-send : IsSend (offer.the_field).row
Offer-send = search (sendable, body_send) depth 14

Boxes-send : IsSend (boxes.the_field).row
Boxes-send = search (sendable, as_row_send, Tick-send, Box-send, Vec-send) depth 14

Places-send : IsSend (places.the_field).row
Places-send = search (sendable, Vec-send) depth 14

fields_send : IsSend inside.the_row
fields_send = declared_send inside.the_type (
  as_row_send core.the_field Core-send,
  (search (sendable, as_row_send, keepers.the_send, Offer-send) depth 14, (as_row_send places.the_field Places-send, (search (sendable, as_row_send, Boxes-send) depth 14, tt))),
)

pub Offers-send : IsSend (offers.the_field).row
Offers-send = search (sendable, fields_send) depth 14
