use Rattle.std.proofs.Common.{◌≡◌, ◌≤◌, [], vec_capacity}
use Rattle.crossbeam_queue.specs.SegTies.{IsSegPassOf}
use Rattle.fol_inbox.specs.Notes.{drainer_notes}
use Rattle.fol_inbox.specs.Sending.{AreNewSenders}
use Rattle.fol_inbox.specs.Ids.{inbox_id}
use Rattle.fol_inbox.proofs.inbox.Inbox.deal.Given as goal

abbrev pub invariant-loop-number : goal.invariant-loop-number
invariant-loop-number l = IsSegPassOf l.self.queue l.first × (l.first.me.view.client ≡ drainer_notes l.number [] []) × AreNewSenders (inbox_id l.self) l.number l.senders.items × (l.count ≤ vec_capacity l.senders)
