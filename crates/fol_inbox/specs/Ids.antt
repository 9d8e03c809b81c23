-- Which inbox it is.
use Rattle.std.specs.declared.alloc.Global.{Global}
use Rattle.crossbeam_queue.specs.SegTies.{SegId}
use Rattle.fol_inbox.specs.declared.inbox.Inbox.{Inbox}

-- no two inboxes share it
abbrev pub inbox_id : Inbox → SegId Global
inbox_id inbox = inbox.queue
