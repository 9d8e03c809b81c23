-- All seats of a world.
use Rattle.std.specs.Prelude.{ℕ, zero, suc, ◌≡◌, ◌+◌, ◌<◌, false, List, [], ◌++◌, length, map, slice_get, Option, None, Some, All, Contains}
use Rattle.std.specs.List.{AllByRecursion}
use Rattle.fol_model.specs.declared.openings.Opening.{Opening}
use Rattle.fol_model.specs.declared.closings.Closing.{Closing}
use Rattle.fol_model.specs.declared.events.Entry.{Entry}
use Rattle.fol_model.specs.Counting.{some_below}
use Rattle.fol_model.specs.Outputs.{Outputs}
use Rattle.fol_model.specs.Run.{world}
use Rattle.fol_core.specs.declared.answers.CloseFault.{CloseFault}
use Rattle.fol_core.specs.declared.answers.CloseFault.TheVariants as faults
use Rattle.fol_core.specs.Answers.{Faults, is_ticking_in}
use Rattle.fol_lock.specs.Log.{StartsWith}
use Rattle.fol_seat_laws.specs.Signed.{own_of}
use Rattle.fol_live.specs.Kept.{Keeps}
use Rattle.fol_live.specs.Turns.{IsLate}
use Rattle.fol_lock.specs.Seat.{LockId}
use Rattle.fol_lock.specs.Seat as locks
use Rattle.fol_slots.specs.Shown.{AreNew, Worker, new_worker}
use Rattle.fol_live.specs.declared.origin.Origin.{Origin}
use Rattle.fol_offers.specs.Offered.{Offered}
use Rattle.fol_live.specs.Seat.{LiveId, Shown}

-- what a new seat of this number has of the slots
abbrev pub new_hand : LiveId → ℕ → Option (Worker Offered)
new_hand lock zero = None
new_hand lock (suc n) = Some (new_worker lock.slots (suc n))

abbrev pub newcomer : LiveId → Opening → ℕ → Shown
newcomer lock o n = record { lock = lock; opening = o; number = n; seen = []; mine = []; hand = new_hand lock n }

-- one new seat for each number below the count, in order
pub record AreNewSeats (lock : LiveId) (o : Opening) (count : ℕ) (seats : List Shown) : Type 0 where
  pub as_many : length seats ≡ count
  pub each : (n : ℕ) → n < count → slice_get seats n ≡ Some (newcomer lock o n)

abbrev pub numbers_of : List Shown → List ℕ
numbers_of seats = map (λ seat. seat.number) seats

-- each number below the count is the number of one of these seats
abbrev pub AreAllSeats : ℕ → List Shown → Type 0
AreAllSeats count seats = (n : ℕ) → n < count → Contains (numbers_of seats) n

-- what the seat knows holds of this opening and history
pub record Knows (o : Opening) (h : List Entry) (seat : Shown) : Type 0 where
  pub opening : o ≡ seat.opening
  pub seen : StartsWith h seat.seen
  pub mine : own_of seat.number h ≡ seat.mine
  pub own : own_of seat.number seat.seen ≡ seat.mine

-- this is the history that all seats made: each knows it, and it has no entry of anyone else
pub record AreOf (w : ℕ) (seats : List Shown) (o : Opening) (h : List Entry) : Type 0 where
  pub each : All (Knows o h) seats
  pub others : All (λ (e : Entry). Contains (numbers_of seats) e.by) h
  pub keeps : Keeps w o h

-- the closing of the history that all seats, of which w are workers', made
pub record ClosesAll (w : ℕ) (seats : List Shown) (c : Closing) : Type 0 where
  pub of : AreOf w seats c.opening c.history
  pub rows : Outputs c.opening c.history c
  pub rests : some_below (is_ticking_in (world c.opening c.history)) (world c.opening c.history).grid.next ≡ false

-- behind the history that all seats made, and Begins of which nobody had learnt, a region ticks, and this is the lowest such one
pub record Unclosed (w : ℕ) (seats : List Shown) (r : ℕ) : Type 0 where
  pub opening : Opening
  pub history : List Entry
  pub learnt : List Entry
  pub of : AreOf w seats opening history
  pub late : AllByRecursion (IsLate 0) learnt
  pub keeps : Keeps w opening (history ++ learnt)
  pub ticks : Faults (world opening (history ++ learnt)) (faults.Ticking r)

-- out of memory needs no cause
abbrev pub ClosingFault : ℕ → List Shown → CloseFault → Type 0
ClosingFault w seats (faults.Ticking r) = Unclosed w seats r
ClosingFault w seats faults.NoMemory = Unit {0}

-- ---- seats that are dealt

-- where these are new seats of a lock, and of workers at the slots of the origin, the first seat gets none of the workers, and each other one
-- the next
abbrev pub DealsAll : List (locks.Shown Origin Entry) → List (Worker Offered) → List Shown → Type 0
DealsAll seats workers dealt = (lock : LockId) (o : Origin) (count : ℕ) → locks.AreNew lock o (count + 1) seats → AreNew o.slots count workers
    → AreNewSeats (record { lock = lock; slots = o.slots; workers = o.workers }) o.opening (count + 1) dealt

-- these are new seats of a lock, and new workers at the slots of its origin, one fewer
pub record AreFresh (seats : List (locks.Shown Origin Entry)) (workers : List (Worker Offered)) : Type 0 where
  pub lock : LockId
  pub origin : Origin
  pub count : ℕ
  pub new_seats : locks.AreNew lock origin (count + 1) seats
  pub new_workers : AreNew origin.slots count workers
  pub sized : origin.slots.slots ≡ 1820
