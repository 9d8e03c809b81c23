-- What clauses see of senders.
use Rattle.std.specs.Prelude.{◌≡◌, ℕ, ◌<◌, List, [], ◌∷◌, length, map, slice_get, Option, Some, None, Contains}
use Rattle.std.specs.declared.alloc.Global.{Global}
use Rattle.atomic_blocks.specs.declared.web.Seat.{Seat}
use Rattle.crossbeam_queue.specs.declared.seg_queue.Going.{Going}
use Rattle.crossbeam_queue.specs.SegTies.{SegId}
use Rattle.fol_inbox.specs.declared.letter.Letter.{Letter}
use Rattle.fol_inbox.specs.declared.notes.Claim.{Claim}
use Rattle.fol_inbox.specs.declared.notes.Notes.{Notes}
use Rattle.fol_inbox.specs.Notes.{sender_notes}

abbrev pub Pass : Type 0
Pass = Seat (Option Letter) (Going Letter Notes) Global

abbrev pub InboxId : Type 0
InboxId = SegId Global

abbrev pub pass_id : Pass → InboxId
pass_id p = record { web = p.web; heap = p.heap }

-- the pass is in no step
pub record IsIdle (p : Pass) : Type 0 where
  pub hand : p.me.hand ≡ None
  pub spare : p.me.spare ≡ None

pub record Sending : Type 0 where
  pub inbox : InboxId
  pub number : ℕ
  -- all letters that it sent, in order
  pub sends : List Letter

abbrev pub first_sent : List Claim → List Letter
first_sent [] = []
first_sent (c ∷ cs) = c.sent

abbrev pub sending : ℕ → Pass → Sending
sending number p = record { inbox = pass_id p; number = number; sends = first_sent p.me.view.client.claims }

pub record IsSender (number next : ℕ) (p : Pass) : Type 0 where
  pub idle : IsIdle p
  pub notes : p.me.view.client ≡ sender_notes number (first_sent p.me.view.client.claims)
  pub next_is : next ≡ length (first_sent p.me.view.client.claims)

abbrev pub new_sender : InboxId → ℕ → Sending
new_sender inbox n = record { inbox = inbox; number = n; sends = [] }

-- one sender for each number below the count, in order, which has sent nothing
pub record AreNewSenders (inbox : InboxId) (count : ℕ) (senders : List Sending) : Type 0 where
  pub as_many : length senders ≡ count
  pub each : (n : ℕ) → n < count → slice_get senders n ≡ Some (new_sender inbox n)

-- each number below the count is the number of one of these senders
abbrev pub AreAllSenders : ℕ → List Sending → Type 0
AreAllSenders count senders = (n : ℕ) → n < count → Contains (map (λ (s : Sending). s.number) senders) n

-- all that the sender sent is one of these claims
abbrev pub HasClaim : List Claim → Sending → Type 0
HasClaim claims s = Contains claims (record { number = s.number; sent = s.sends })
