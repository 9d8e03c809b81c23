-- The data of a region may go to another thread.
use denote.Param.Send.{IsSend, sendable}
use Rattle.fol_chunks.proofs.chunks.Chunks.TheSendSync as chunks
use Rattle.fol_data.specs.contracts.region_data.RegionData as body
use Rattle.fol_queues.proofs.Crossing.{Queues-send}

pub RegionData-send : IsSend (body.the_field).row
RegionData-send = search (sendable, Queues-send, chunks.the_send) depth 14
