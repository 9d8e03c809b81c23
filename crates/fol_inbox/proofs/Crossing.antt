-- Threads may share an inbox, and a sender may go to one.
use denote.RattleType.{RattleType}
use denote.Param.Send.{IsSend, IsSync, sendable}
use denote.Param.SendFields.{as_row_send, as_row_sync, declared_send, declared_sync}
use Rattle.std.proofs.Crossing.{frees, send, sync}
use Rattle.core.specs.contracts.option.Option as option
use Rattle.atomic_blocks.proofs.web.Seat.TheSendSync as passes
use Rattle.crossbeam_queue.proofs.seg_queue.Chained.TheSendSync as queues
use Rattle.crossbeam_queue.specs.contracts.seg_queue.Ends as ends
use Rattle.fol_model.proofs.Crossing.{Action-send, ChunkPos-send}
use Rattle.fol_inbox.specs.contracts.inbox.Inbox as inbox
use Rattle.fol_inbox.specs.contracts.letter.Letter as letter
use Rattle.fol_inbox.specs.contracts.sender.Sender as sender
use Rattle.fol_inbox.specs.contracts.sender.Sender.TheInside as inside

Letter-send : IsSend (letter.the_field).row
Letter-send = search (sendable, Action-send, ChunkPos-send) depth 14

slot_send : IsSend (option.the_row letter.the_row)
slot_send = search (sendable, Letter-send) depth 14

ends_sync : (S : RattleType) → IsSync (ends.the_row S)
ends_sync S = search sendable depth 20

pub Inbox-sync : IsSync inbox.the_row
Inbox-sync = declared_sync inbox.the_type (search (sendable, as_row_sync, queues.the_sync, slot_send, send, ends_sync, sync, frees) depth 20, tt)

fields_send : IsSend inside.the_row
fields_send = declared_send inside.the_type (search sendable, (search sendable, (search (sendable, as_row_send, passes.the_send, slot_send, send, frees) depth 20, tt)))

pub Sender-send : IsSend (sender.the_field).row
Sender-send = search (sendable, fields_send) depth 14
