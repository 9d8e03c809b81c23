-- Threads may share a server, and a worker may go to one.
use denote.Param.Send.{IsSend, IsSync, sendable}
use denote.Param.SendFields.{declared_sync}
use Rattle.fol_lock.proofs.seat.Seat.TheSendSync as seats
use Rattle.fol_live.proofs.Crossing.{Live-sync, Seat-send}
use Rattle.fol_follow.proofs.Crossing.{Book-sync, Ledger-send}
use Rattle.fol_inbox.proofs.Crossing.{Inbox-sync}
use Rattle.fol_server.specs.contracts.server.Server as server
use Rattle.fol_server.specs.contracts.worker.Worker as worker

pub Server-sync : IsSync server.the_row
Server-sync = declared_sync server.the_type (Live-sync, (Book-sync, (Inbox-sync, tt)))

pub Worker-send : IsSend (worker.the_field).row
Worker-send = search (sendable, Seat-send, seats.the_send, Ledger-send) depth 14
