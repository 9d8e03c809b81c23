-- The rule of the table: one pair of hands for each body.
-- A body is at home in its slot, or in the hands of the one worker whose number stands in the slot's word, or in the keeper's hands within a call of the keeper.
use Rattle.std.specs.Prelude.{◌≡◌, ◌⊎◌, ℕ, ◌+◌, ◌-◌, ◌<◌, ◌≤◌, List, length, slice_index, slice_index_or, Option, Some, None, IsSome, true}
use Rattle.std.specs.Option.{ForSome}
use mathlib.Core.Option.{some}
use mathlib.Core.Option as maybe
use lib.ListN.{get_elem?}
use Rattle.atomic_table.specs.Table.{State}
use Rattle.fol_slots.specs.declared.view.Place.{Place}
use Rattle.fol_slots.specs.declared.view.View.{View}

module _ {T : Type 0} where
  abbrev pub place : Option T → Option T → Option ℕ → Place T
  place kept offered found = record { kept = kept; offered = offered; found = found }

  -- what the keeper knows of slot i
  abbrev pub place_at : List (Place T) → ℕ → Place T
  place_at ps i = slice_index_or ps i (place None None None)

  -- no slot but i shows worker k as found
  abbrev pub FoundOnlyAt : List (Place T) → ℕ → ℕ → Type 0
  FoundOnlyAt ps k i = (j : ℕ) → (place_at ps j).found ≡ Some k → j ≡ i

-- What holds of slot i, where its word is w, what lies in it is h, and the keeper knows it as p.
-- `owner` is the seat that has a worker's number, `hold` the slot that a worker holds, `outer` the seat that has a slot out.
module _ {T : Type 0} (fit : T → Type 0) (keeper : ℕ) (owner : ℕ → ℕ) (hold outer : ℕ → Option ℕ) (i : ℕ) where
  pub record SlotFits (w : ℕ) (h : maybe.Option (maybe.Option (Option T))) (p : Place T) : Type 0 where
    -- the word is Kept exactly where the keeper keeps the slot
    pub kept : w ≡ 0 → IsSome p.kept
    pub keeps : IsSome p.kept → w ≡ 0
    -- at Ready the slot is at home with the body that was offered
    pub ready : w ≡ 1 → (h ≡ some (some p.offered)) × (outer i ≡ None)
    -- what was offered last is fit, whatever became of it, and there is such a body where the slot is not kept
    pub fits : ForSome p.offered fit
    pub offered : 1 ≤ w → IsSome p.offered
    -- at Kept the slot is at home with the body that the keeper shows, and at Ticking it is empty, unless it is out
    pub home : w ≡ 0 → outer i ≡ None → h ≡ some (some p.kept)
    pub empty : 2 ≤ w → outer i ≡ None → h ≡ some (some None)
    -- the word is Ticking(k) exactly where worker k holds the slot
    pub ticks : 2 ≤ w → hold (w - 1) ≡ Some i
    pub held : (k : ℕ) → hold k ≡ Some i → (w ≡ k + 1) × (1 ≤ k)
    -- where the keeper found worker k, the word is Ticking(k)
    pub found : (k : ℕ) → p.found ≡ Some k → (w ≡ k + 1) × (1 ≤ k)
    -- the keeper alone has a kept slot out, and the worker that holds a slot alone has that one out
    pub out_by : (j : ℕ) → outer i ≡ Some j → ((w ≡ 0) × (j ≡ keeper)) ⊎ ((2 ≤ w) × (j ≡ owner (w - 1)))

-- What holds of a seat's view, where there are n slots, the keeper has given out the numbers up to `made`, and knows the slots as ps.
module _ {T : Type 0} (n keeper made : ℕ) (owner : ℕ → ℕ) (hold outer : ℕ → Option ℕ) (ps : List (Place T)) (seat : ℕ) where
  pub record SeatFits (v : View T) : Type 0 where
    pub keeper_is : v.keeper ≡ true → (seat ≡ keeper) × (v.places ≡ ps) × (v.made ≡ made)
    pub worker : v.worker ≡ true → (owner v.number ≡ seat) × (hold v.number ≡ v.slot) × (1 ≤ v.number) × (v.number ≤ made)
    -- the body that a worker claimed is the one that was offered there
    pub claims : v.worker ≡ true → (i : ℕ) → v.slot ≡ Some i → (i < n) × (v.claimed ≡ (place_at ps i).offered)
    pub out : (i : ℕ) → v.out ≡ Some i → outer i ≡ Some seat
    pub outer_is : (i : ℕ) → outer i ≡ Some seat → v.out ≡ Some i

pub record Ruled {T : Type 0} (fit : T → Type 0) (n : ℕ) (s : State (Option T) (View T)) : Type 0 where
  pub keeper : ℕ
  pub made : ℕ
  pub owner : ℕ → ℕ
  pub hold : ℕ → Option ℕ
  pub outer : ℕ → Option ℕ
  pub ps : List (Place T)
  pub wide : length s.words ≡ n
  pub deep : length s.homes ≡ n
  pub long : length ps ≡ n
  pub few : made + 1 < 4294967296
  pub unmade : (k : ℕ) → made < k → hold k ≡ None
  pub seated : (i j : ℕ) → outer i ≡ Some j → j < length s.views
  pub each_slot : (i : ℕ) → i < n → SlotFits fit keeper owner hold outer i (slice_index s.words i) (get_elem? s.homes i) (place_at ps i)
  pub each_seat : (j : ℕ) (v : View T) → get_elem? s.views j ≡ some v → SeatFits n keeper made owner hold outer ps j v
