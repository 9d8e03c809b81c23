-- A set of chunks may go to another thread.
use denote.Param.Send.{IsSend, sendable}
use Rattle.std.proofs.Crossing.{Vec-send}
use Rattle.fol_model.proofs.Crossing.{ChunkPos-send}
use Rattle.fol_keyed.specs.contracts.chunk_set.ChunkSet as set

pub ChunkSet-send : IsSend (set.the_field).row
ChunkSet-send = search (sendable, Vec-send, ChunkPos-send) depth 14
