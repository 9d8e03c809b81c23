use Rattle.std.proofs.Common.{◌≡◌, ◌++◌, List, All}
use Rattle.crossbeam_queue.specs.SegTies.{IsSegPassOf}
use Rattle.fol_inbox.specs.Notes.{drainer_notes}
use Rattle.fol_inbox.specs.Sending.{Sending, HasClaim}
use Rattle.fol_inbox.proofs.gather.gather.Given as goal

abbrev pub invariant-loop-sender : goal.invariant-loop-sender
invariant-loop-sender l = record {
  pass : IsSegPassOf l.queue l.pass;
  notes : l.pass.me.view.client ≡ drainer_notes l.initial.pass.me.view.client.dealt l.initial.pass.me.view.client.taken l.pass.me.view.client.claims;
  inboxes : All (λ (s : Sending). s.inbox ≡ l.queue) l.senders.items;
  done : List Sending;
  all : l.initial.senders.items ≡ l.senders.items ++ done;
  have : All (HasClaim l.pass.me.view.client.claims) done;
}

abbrev pub decreases-loop-sender : goal.decreases-loop-sender
decreases-loop-sender l = goal.left-loop-sender l
