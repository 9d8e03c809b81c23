-- What the receipts of a drainer say.
use Rattle.std.specs.Prelude.{◌≡◌, ℕ, suc, nat_eq, Bool, true, false, ◌&&◌, if◌then◌else◌, List, [], ◌∷◌, ◌++◌, length, map, take, Option, None, IfSome}
use Rattle.fol_model.specs.declared.events.Event.{Event}
use Rattle.fol_model.specs.declared.events.Event.TheVariants.{Post}
use Rattle.fol_model.specs.declared.events.Entry.{Entry}
use Rattle.fol_live.specs.Goes.{Does}
use Rattle.fol_live.specs.Seat.{Shown}
use Rattle.fol_live.specs.Seat as seats
use Rattle.fol_inbox.specs.declared.letter.Letter.{Letter}
use Rattle.fol_inbox.specs.declared.letter.Receipt.{Receipt}
use Rattle.fol_inbox.specs.Draining.{Draining, draining}
use Rattle.fol_inbox.specs.Letters.{held_list, posts_of}
use Rattle.fol_inbox.specs.Notes.{drainer_notes}
use Rattle.fol_inbox.specs.Rule.{CanPost}
use Rattle.fol_inbox.specs.Sending.{IsIdle, Pass}

abbrev pub is_post : Event → Bool
is_post (Post caller c d action answer) = true
is_post _ = false

-- where the posts of the seat n stand in a history that begins with these entries at place p
unfoldable pub post_places : ℕ → ℕ → List Entry → List ℕ
post_places n p [] = []
post_places n p (e ∷ es) = (if nat_eq e.by n && is_post e.event then p ∷ [] else []) ++ post_places n (suc p) es

-- the number of the sender, and the place among its letters
abbrev pub letter_names : List Letter → List (ℕ × ℕ)
letter_names ls = map (λ (l : Letter). (l.sender, l.place)) ls

abbrev pub receipt_names : List Receipt → List (ℕ × ℕ)
receipt_names rs = map (λ (r : Receipt). (r.sender, r.place)) rs

abbrev pub receipt_entries : List Receipt → List ℕ
receipt_entries rs = map (λ (r : Receipt). r.entry) rs

-- the receipts are, in order, the posts that the seat made since the start
pub record AreReceipts (d : Draining) : Type 0 where
  -- since the start the seat recorded the posts of these letters, with the answers of the receipts, and nothing else but Begins that it learnt of
  pub does : Does d.since d.seat (posts_of d.since.number d.letters d.receipts)
  -- each receipt has the place of its post
  pub places : post_places d.since.number 0 d.seat.seen ≡ post_places d.since.number 0 d.since.seen ++ receipt_entries d.receipts
  -- and names its letter
  pub names : receipt_names d.receipts ≡ letter_names d.letters

-- what each drainer keeps
pub record IsDrainer (seat since : Shown) (p : Pass) (receipts : List Receipt) (held : Option Letter) : Type 0 where
  pub idle : IsIdle p
  pub notes : p.me.view.client ≡ drainer_notes p.me.view.client.dealt p.me.view.client.taken []
  pub taken : p.me.view.client.taken ≡ take (length receipts) p.me.view.client.taken ++ held_list held
  pub may : IfSome held CanPost
  pub no_tick : seats.held seat ≡ None
  pub law : AreReceipts (draining seat since p receipts held)
