-- What each step tells the seat that makes it: of the seat before, the number found and the seat after.
use Rattle.std.specs.Prelude.{◌≡◌, ◌≢◌, ℕ, ◌%◌, ◌^◌, false, List, [], ◌∷◌, Option, Some}
use Rattle.atomic_table.specs.Table.{Me, Step}
use Rattle.fol_lock.specs.declared.view.View.{View}
use Rattle.fol_lock.specs.Log.{given_by, StartsWith}
use Rattle.fol_lock.specs.View.{with_ticket, with_turn, after_turn}

module _ {S O E : Type 0} (log_of : S → List E) (origin_of : S → O) (by : E → ℕ) where
  -- what the seat with the turn learns of the state
  pub record Fresh (v : View O E) (state : S) : Type 0 where
    pub origin_is : v.own.origin ≡ Some (origin_of state)
    pub seen : StartsWith (log_of state) v.own.seen
    pub mine : given_by by v.own.number (log_of state) ≡ v.own.mine

  -- the turn has come: the state is out with the seat, and the seat has seen its log
  pub record GotTurn (before after : Me (Option S) (View O E)) : Type 0 where
    pub state : S
    pub after_is : after ≡ (with_turn before.0 (log_of state), (0, Some state) ∷ before.1)
    pub fresh : Fresh before.0 state

module _ {S O E : Type 0} where
  abbrev pub drew : Step (Option S) → Me (Option S) (View O E) → ℕ → Me (Option S) (View O E) → Type 0
  drew step before found after = (ticket : ℕ) × (ticket % 2 ^ 64 ≡ found) × (after ≡ (with_ticket before.0 ticket, before.1))

  abbrev pub looked : (S → List E) → (S → O) → (E → ℕ) → Step (Option S) → Me (Option S) (View O E) → ℕ → Me (Option S) (View O E) → Type 0
  looked log_of origin_of by step before found after =
      (found ≢ before.0.ticket % 2 ^ 64 → after ≡ before)
      × (found ≡ before.0.ticket % 2 ^ 64 → GotTurn log_of origin_of by before after)

  abbrev pub passed : (S → List E) → (E → ℕ) → Step (Option S) → Me (Option S) (View O E) → ℕ → Me (Option S) (View O E) → Type 0
  passed log_of by step before found after = (state : S) → before.1 ≡ (0, Some state) ∷ [] → after ≡ (after_turn by before.0 (log_of state), [])

  -- the seat waits for its turn with this ticket
  pub record HasTicket (ticket : ℕ) (m : Me (Option S) (View O E)) : Type 0 where
    pub live : m.0.live ≡ 1
    pub draws : m.0.draws ≡ 1
    pub no_turn : m.0.turn ≡ false
    pub ticket_is : ticket ≡ m.0.ticket % 2 ^ 64
    pub nothing_out : m.1 ≡ []
