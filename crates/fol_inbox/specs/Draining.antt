-- What clauses see of a drainer.
use Rattle.std.specs.Prelude.{◌≡◌, ℕ, List, [], length, take, Option, None}
use Rattle.fol_live.specs.Seat.{Shown}
use Rattle.fol_inbox.specs.declared.letter.Letter.{Letter}
use Rattle.fol_inbox.specs.declared.letter.Receipt.{Receipt}
use Rattle.fol_inbox.specs.Sending.{InboxId, Pass, pass_id}

pub record Draining : Type 0 where
  pub inbox : InboxId
  -- how many senders the inbox has, numbered from 0
  pub senders : ℕ
  pub seat : Shown
  -- the seat at the start
  pub since : Shown
  -- the letters that were posted, in order
  pub letters : List Letter
  -- and their receipts
  pub receipts : List Receipt
  -- the letter that was taken and not posted
  pub held : Option Letter

-- all letters that were taken have a receipt but the one that is held
abbrev pub draining : Shown → Shown → Pass → List Receipt → Option Letter → Draining
draining seat since p receipts held = record {
  inbox = pass_id p;
  senders = p.me.view.client.dealt;
  seat = seat;
  since = since;
  letters = take (length receipts) p.me.view.client.taken;
  receipts = receipts;
  held = held;
}

-- a drainer of this seat that has taken nothing
pub record IsNewDrainer (inbox : InboxId) (senders : ℕ) (seat : Shown) (d : Draining) : Type 0 where
  pub inbox_is : d.inbox ≡ inbox
  pub senders_is : d.senders ≡ senders
  pub seat_is : d.seat ≡ seat
  pub since_is : d.since ≡ seat
  pub letters_is : d.letters ≡ []
  pub receipts_is : d.receipts ≡ []
  pub held_is : d.held ≡ None
