-- Queues may go to another thread.
use denote.Param.Send.{IsSend, sendable}
use Rattle.std.proofs.Crossing.{Vec-send}
use Rattle.fol_model.proofs.Crossing.{Task-send}
use Rattle.fol_queues.specs.contracts.dated.Dated as dated
use Rattle.fol_queues.specs.contracts.queues.Queues as queues

pub Dated-send : IsSend (dated.the_field).row
Dated-send = search (sendable, Task-send) depth 14

pub Queues-send : IsSend (queues.the_field).row
Queues-send = search (sendable, Task-send, Dated-send, Vec-send) depth 14
