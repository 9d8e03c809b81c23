-- A seat's pass at the table, and what the seat shows by it.
use Rattle.std.specs.Prelude.{◌≡◌, ℕ, false, [], ◌∷◌, Option, None, Contains, if◌then◌else◌}
use Rattle.atomic_table.specs.Table.{Me}
use Rattle.fol_lock.specs.declared.view.Claim.{Claim}
use Rattle.fol_lock.specs.declared.view.View.{View}
use Rattle.fol_lock.specs.Log.{given_by}
use Rattle.fol_lock.specs.Seat.{LockId, Shown}
use Rattle.fol_lock.specs.View.{claim, claims}

module _ {S O E : Type 0} where
  abbrev pub shown : LockId → Me (Option S) (View O E) → Shown O E
  shown lock m = record { lock = lock; number = m.0.own.number; origin = m.0.own.origin; seen = m.0.own.seen; mine = m.0.own.mine; has_turn = m.0.turn }

  -- the pass is that of one seat with this number
  pub record Sits (by : E → ℕ) (number : ℕ) (m : Me (Option S) (View O E)) : Type 0 where
    pub live : m.0.live ≡ 1
    pub number_is : m.0.own.number ≡ number
    pub mine : given_by by number m.0.own.seen ≡ m.0.own.mine
    pub alone : m.0.joined ≡ []
    -- between calls a seat has a ticket, and the emptied slot, just while it has the turn
    pub draws : m.0.draws ≡ (if m.0.turn then 1 else 0)
    pub out : m.1 ≡ (if m.0.turn then (0, None) ∷ [] else [])

  -- the pass of a seat into which others are joined
  pub record Gathers (m : Me (Option S) (View O E)) : Type 0 where
    pub live : m.0.live ≡ 1
    pub draws : m.0.draws ≡ 0
    pub no_turn : m.0.turn ≡ false
    pub nothing_out : m.1 ≡ []

module _ {O E : Type 0} where
  -- what a seat shows, as a claim
  abbrev pub claim_of : Shown O E → Claim O E
  claim_of s = claim s.number s.origin s.seen s.mine

  -- what the seat shows is among the claims of this view
  abbrev pub HasClaim : View O E → Shown O E → Type 0
  HasClaim v s = Contains (claims v) (claim_of s)
