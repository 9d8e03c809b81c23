-- What a call of `drain` does to its drainer.
use Rattle.std.specs.Prelude.{◌≡◌, ℕ, ◌+◌, ◌<◌, Bool, true, List, [], ◌∷◌, ◌++◌, length, Option, Some, None, IsSome, Result, Ok, Err}
use Rattle.std.specs.declared.alloc.AllocError.{AllocError}
use Rattle.fol_core.specs.Meaning.{world_of}
use Rattle.fol_live.specs.Goes.{Does}
use Rattle.fol_live.specs.Seat.{Shown, meaning_of}
use Rattle.fol_inbox.specs.declared.letter.Letter.{Letter}
use Rattle.fol_inbox.specs.declared.letter.Receipt.{Receipt}
use Rattle.fol_inbox.specs.declared.notes.Notes.{Notes}
use Rattle.fol_inbox.specs.declared.drain.Drained.{Drained}
use Rattle.fol_inbox.specs.declared.drain.Drained.TheVariants as drained
use Rattle.fol_inbox.specs.declared.drain.Step.{Step}
use Rattle.fol_inbox.specs.declared.drain.Step.TheVariants as steps
use Rattle.fol_inbox.specs.declared.drain.Attempt.{Attempt}
use Rattle.fol_inbox.specs.declared.drain.Attempt.TheVariants as attempts
use Rattle.fol_inbox.specs.Draining.{Draining}
use Rattle.fol_inbox.specs.Letters.{held_list, post_of, posts_of}
use Rattle.fol_inbox.specs.Notes.{notes_taken}
use Rattle.fol_inbox.specs.Receipts.{post_places}

-- Finish stands in what the seat has seen
abbrev pub is_finished : Shown → Bool
is_finished s = (world_of (meaning_of s)).finished

pub record IsSameDrainer (old new : Draining) : Type 0 where
  pub inbox : new.inbox ≡ old.inbox
  pub senders : new.senders ≡ old.senders
  pub since : new.since ≡ old.since
  pub lock : new.seat.lock ≡ old.seat.lock
  pub number : new.seat.number ≡ old.seat.number
  pub hand : new.seat.hand ≡ old.seat.hand

-- so many letters were posted, and the seat recorded nothing else but Begins that it learnt of
pub record PostsMore (n : ℕ) (old new : Draining) : Type 0 where
  -- the letters, and their receipts
  pub more : List Letter
  pub answers : List Receipt
  pub as_many : length more ≡ n
  pub each : length answers ≡ n
  pub letters : new.letters ≡ old.letters ++ more
  pub receipts : new.receipts ≡ old.receipts ++ answers
  pub does : Does old.seat new.seat (posts_of old.seat.number more answers)
  -- these were taken from the queue; the letter that was held went before them
  pub taken : List Letter
  pub in_turn : new.letters ++ held_list new.held ≡ (old.letters ++ held_list old.held) ++ taken

-- each answer with what holds for it
abbrev pub Drains : ℕ → Draining → Draining → Result Drained AllocError → Type 0
Drains max old new (Ok (drained.Moved n)) = (n ≡ max) × PostsMore n old new × (new.held ≡ None)
Drains max old new (Ok (drained.Empty n)) = (n < max) × PostsMore n old new × (new.held ≡ None)
Drains max old new (Ok (drained.Over n)) = (n < max) × PostsMore n old new × IsSome new.held × (is_finished new.seat ≡ true)
Drains max old new (Err e) = (n : ℕ) × (n < max) × PostsMore n old new

-- the same for one letter
abbrev pub Steps : Draining → Draining → Result Step AllocError → Type 0
Steps old new (Ok steps.Posted) = PostsMore 1 old new × (new.held ≡ None)
Steps old new (Ok steps.Empty) = PostsMore 0 old new × (new.held ≡ None)
Steps old new (Ok steps.Over) = PostsMore 0 old new × IsSome new.held × (is_finished new.seat ≡ true)
Steps old new (Err e) = PostsMore 0 old new

-- the next letter is the held one, or else one of the queue
abbrev pub TakesUp : Notes → Notes → Option Letter → Option Letter → Type 0
TakesUp old new (Some l) result = (result ≡ Some l) × (new ≡ old)
TakesUp old new None (Some l) = new ≡ notes_taken old l
TakesUp old new None None = new ≡ old

-- the letter was posted, with this receipt
pub record PostsOne (old new : Shown) (l : Letter) (r : Receipt) : Type 0 where
  pub does : Does old new (post_of old.number l r ∷ [])
  pub hand : new.hand ≡ old.hand
  pub place : post_places old.number 0 new.seen ≡ post_places old.number 0 old.seen ++ r.entry ∷ []
  pub sender : r.sender ≡ l.sender
  pub letter : r.place ≡ l.place

-- no letter was posted
pub record PostsNone (old new : Shown) : Type 0 where
  pub does : Does old new []
  pub hand : new.hand ≡ old.hand
  pub place : post_places old.number 0 new.seen ≡ post_places old.number 0 old.seen

-- what became of the letter
abbrev pub Attempts : Shown → Shown → Letter → Attempt → Type 0
Attempts old new l (attempts.Posted r) = PostsOne old new l r
Attempts old new l (attempts.Over m) = (m ≡ l) × PostsNone old new × (is_finished new ≡ true)
Attempts old new l (attempts.NoMemory m) = (m ≡ l) × PostsNone old new
