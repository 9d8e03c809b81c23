-- What the calls of a book do: each is one turn of its seat, in which all that was recorded before is seen.
use Rattle.std.specs.Prelude.{ℕ, ◌≡◌, ◌<◌, false, true, List, [], ◌∷◌, ◌++◌, All, Contains, Some, Result, IfOk, OnErr}
use Rattle.std.specs.declared.alloc.AllocError.{AllocError}
use Rattle.fol_model.specs.declared.openings.Opening.{Opening}
use Rattle.fol_data.specs.declared.tick.Tick.{Tick}
use Rattle.fol_lock.specs.Log.{StartsWith, given_by}
use Rattle.fol_lock.specs.Seat.{Shown, numbers_of}
use Rattle.fol_follow.specs.declared.entries.EntityAt.{EntityAt}
use Rattle.fol_follow.specs.declared.entries.Asked.{Asked}
use Rattle.fol_follow.specs.declared.entries.BookEvent.{BookEvent}
use Rattle.fol_follow.specs.declared.entries.BookEvent.TheVariants.{Ask, Visit}
use Rattle.fol_follow.specs.declared.entries.BookEntry.{BookEntry}
use Rattle.fol_follow.specs.declared.entries.Visiting.{Visiting}
use Rattle.fol_follow.specs.declared.entries.Visiting.TheVariants.{Made, Again}
use Rattle.fol_follow.specs.declared.entries.BookClosing.{BookClosing}
use Rattle.fol_follow.specs.Here.{AreHere}
use Rattle.fol_follow.specs.Visits.{AreLeft, IsRun, answer_to, book_after, has_visit}

-- a seat of a book: the lock's seat
abbrev pub SeatShown : Type 0
SeatShown = Shown Opening BookEntry

abbrev pub by_of : BookEntry → ℕ
by_of e = e.by

-- one turn of a seat: it found the whole history so far, which begins with what it had seen and in which just its own entries are its own,
-- and added entries of its own, or none
pub record Turn (old new : SeatShown) : Type 0 where
  pub opening : Opening
  pub origin : old.origin ≡ Some opening
  pub found : List BookEntry
  pub begins : StartsWith found old.seen
  pub own : given_by by_of old.number found ≡ old.mine
  pub added : List BookEntry
  pub lock : new.lock ≡ old.lock
  pub number : new.number ≡ old.number
  pub same_origin : new.origin ≡ old.origin
  pub idle : new.has_turn ≡ false
  pub seen : new.seen ≡ found ++ added
  pub mine : new.mine ≡ old.mine ++ added
  pub before : IsRun opening found
  pub run : IsRun opening new.seen

abbrev pub entry : ℕ → BookEvent → BookEntry
entry by event = record { by = by; event = event }

-- the place of an entity was asked for: Unknown exactly where the opening has no such entity, else the next number
pub record Asks (old new : SeatShown) (entity delay : ℕ) (r : Result Asked AllocError) : Type 0 where
  pub turn : Turn old new
  pub answer : IfOk r (λ a. a ≡ answer_to turn.opening (book_after turn.found) entity)
  pub recorded : IfOk r (λ a. turn.added ≡ entry old.number (Ask entity delay a) ∷ [])
  pub refused : OnErr r (turn.added ≡ [])

-- Again exactly where the history holds a visit of this tick, and it is not recorded; else the visit is, with the entities that stand there
abbrev pub VisitTold : Opening → List BookEntry → List BookEntry → ℕ → Tick → Visiting → Type 0
VisitTold o found added by tick (Made visits) =
    (has_visit found tick.region tick.begun ≡ false)
    × ((here : List EntityAt) × AreHere o tick here × (added ≡ entry by (Visit tick.region tick.begun here visits) ∷ []))
VisitTold o found added by tick Again = (has_visit found tick.region tick.begun ≡ true) × (added ≡ [])

-- a finished tick was shown to the book
pub record Visits (old new : SeatShown) (tick : Tick) (r : Result Visiting AllocError) : Type 0 where
  pub turn : Turn old new
  pub told : IfOk r (λ a. VisitTold turn.opening turn.found turn.added old.number tick a)
  pub refused : OnErr r (turn.added ≡ [])

-- what the seat knows holds of this opening and history
pub record Knows (o : Opening) (h : List BookEntry) (seat : SeatShown) : Type 0 where
  pub origin : seat.origin ≡ Some o
  pub seen : StartsWith h seat.seen
  pub mine : given_by by_of seat.number h ≡ seat.mine

-- the history that all seats made: each knows it, it has no entry of anyone else, it is a run, and these asks are left
pub record Closes (seats : List SeatShown) (c : BookClosing) : Type 0 where
  pub opening : Opening
  pub each : All (Knows opening c.history) seats
  pub others : All (λ (e : BookEntry). Contains (numbers_of seats) e.by) c.history
  pub run : IsRun opening c.history
  pub left : AreLeft (book_after c.history).asks c.left
