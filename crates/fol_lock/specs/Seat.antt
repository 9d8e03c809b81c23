-- What clauses see of a seat.
use Rattle.std.specs.Prelude.{◌≡◌, ℕ, ◌<◌, Bool, true, false, List, [], length, map, slice_get, Option, Some, Contains}
use Rattle.atomic_table.specs.Seated.{TableId}
use Rattle.fol_lock.specs.Log.{given_by, StartsWith}

-- which lock: no two locks share it
abbrev pub LockId : Type 0
LockId = TableId

pub record Shown (O E : Type 0) : Type 0 where
  pub lock : LockId
  pub number : ℕ
  -- the origin of the state behind the lock: no seat of a program shows None
  pub origin : Option O
  -- the log, as far as the seat has seen it
  pub seen : List E
  -- the entries that the seat gave, in order
  pub mine : List E
  pub has_turn : Bool

module _ {O E : Type 0} where
  -- a seat of this lock that has no turn
  abbrev pub IsIdle : LockId → Shown O E → Type 0
  IsIdle lock seat = (seat.lock ≡ lock) × (seat.has_turn ≡ false)

  abbrev pub newcomer : LockId → ℕ → O → Shown O E
  newcomer lock number origin = record { lock = lock; number = number; origin = Some origin; seen = []; mine = []; has_turn = false }

  -- one new seat for each number below the count, in order
  pub record AreNew (lock : LockId) (origin : O) (count : ℕ) (seats : List (Shown O E)) : Type 0 where
    pub as_many : length seats ≡ count
    pub each : (n : ℕ) → n < count → slice_get seats n ≡ Some (newcomer lock n origin)

  -- the seat has taken the turn, and has seen this log
  abbrev pub at_turn : Shown O E → List E → Shown O E
  at_turn seat log = record { lock = seat.lock; number = seat.number; origin = seat.origin; seen = log; mine = seat.mine; has_turn = true }

  abbrev pub numbers_of : List (Shown O E) → List ℕ
  numbers_of seats = map (λ seat. seat.number) seats

  -- each number below the count is the number of one of these seats
  abbrev pub AreAll : ℕ → List (Shown O E) → Type 0
  AreAll count seats = (n : ℕ) → n < count → Contains (numbers_of seats) n

module _ {S O E : Type 0} (log_of : S → List E) (origin_of : S → O) (by : E → ℕ) where
  -- all that the seat knows holds of the state
  pub record Continues (seat : Shown O E) (state : S) : Type 0 where
    pub origin_is : seat.origin ≡ Some (origin_of state)
    pub seen : StartsWith (log_of state) seat.seen
    pub mine : given_by by seat.number (log_of state) ≡ seat.mine
