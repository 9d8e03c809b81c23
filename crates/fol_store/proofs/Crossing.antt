-- A store may go to another thread.
use denote.Param.Send.{IsSend, sendable}
use Rattle.std.proofs.Crossing.{Vec-send}
use Rattle.fol_data.proofs.Crossing.{RegionData-send}
use Rattle.fol_queues.proofs.Crossing.{Dated-send}
use Rattle.fol_store.specs.contracts.store.Store as store
use Rattle.fol_bags.proofs.Crossing.{Bags-send, Places-send}

pub Store-send : IsSend (store.the_field).row
Store-send = search (sendable, Vec-send, Dated-send, RegionData-send, Bags-send, Places-send) depth 14
