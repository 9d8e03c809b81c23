-- What contracts see of the seats.
use Rattle.std.specs.Prelude.{◌≡◌, ℕ, ◌+◌, ◌<◌, List, [], ◌∷◌, ◌++◌, length, slice_get, slice_set, Option, Some, None, IsSome, true, false}
use Rattle.std.specs.Option.{unwrap_or}
use Rattle.atomic_table.specs.Table.{Me}
use Rattle.atomic_table.specs.Seated.{TableId}
use Rattle.fol_slots.specs.declared.view.Place.{Place}
use Rattle.fol_slots.specs.declared.view.View.{View}
use Rattle.fol_slots.specs.declared.word.Word.{Word}
use Rattle.fol_slots.specs.Hands.{place}
use Rattle.fol_slots.specs.Hands as hands
use Rattle.fol_slots.specs.Steps.{all_kept}

-- A worker's seat: whose it is, its number, the slot that it holds, the body that it claimed there, and the slots and words that its failed claims met since it last held a slot, in order.
pub record Worker (T : Type 0) : Type 0 where
  pub slots : TableId
  pub number : ℕ
  pub slot : Option ℕ
  pub claimed : Option T
  pub found : List (ℕ × Word)

-- The keeper's seat: whose it is, what it knows of each slot, and how many workers have seats, which are numbered from 1.
pub record Keeper (T : Type 0) : Type 0 where
  pub slots : TableId
  pub places : List (Place T)
  pub workers : ℕ

module _ {T : Type 0} where
  abbrev pub worker : TableId → View T → Worker T
  worker z v = record { slots = z; number = v.number; slot = v.slot; claimed = v.claimed; found = v.found }

  abbrev pub keeper : TableId → View T → Keeper T
  keeper z v = record { slots = z; places = v.places; workers = v.made }

  -- what the keeper knows of slot i
  abbrev pub place_at : Keeper T → ℕ → Place T
  place_at k i = hands.place_at k.places i

  -- no slot but i shows worker w as found
  abbrev pub FoundOnlyAt : Keeper T → ℕ → ℕ → Type 0
  FoundOnlyAt k w i = hands.FoundOnlyAt k.places w i

  -- the slot that a worker's seat holds, and 0 where it holds none
  abbrev pub held_slot : Worker T → ℕ
  held_slot s = unwrap_or s.slot 0

  -- Between two calls a worker's seat has no slot out. While it holds a slot it has a claimed body and no failed claims.
  pub record IsWorker (z : TableId) (number : ℕ) (slot : Option ℕ) (m : Me (Option T) (View T)) : Type 0 where
    pub worker : m.0.worker ≡ true
    pub keeper : m.0.keeper ≡ false
    pub out : m.0.out ≡ None
    pub empty : m.1 ≡ []
    pub number_is : m.0.number ≡ number
    pub slot_is : m.0.slot ≡ slot
    pub inside : (i : ℕ) → slot ≡ Some i → i < z.slots
    pub settled : IsSome slot → IsSome m.0.claimed × (m.0.found ≡ [])

  pub record IsKeeper (m : Me (Option T) (View T)) : Type 0 where
    pub keeper : m.0.keeper ≡ true
    pub worker : m.0.worker ≡ false
    pub out : m.0.out ≡ None
    pub empty : m.1 ≡ []

  -- the keeper's seat of new slots keeps each, with these bodies, and there are so many workers
  abbrev pub new_keeper : TableId → List T → ℕ → Keeper T
  new_keeper z bodies workers = record { slots = z; places = all_kept bodies; workers = workers }

  abbrev pub new_worker : TableId → ℕ → Worker T
  new_worker z k = record { slots = z; number = k; slot = None; claimed = None; found = [] }

  -- the seats of the workers 1 to count, in order
  pub record AreNew (z : TableId) (count : ℕ) (seats : List (Worker T)) : Type 0 where
    pub count_is : length seats ≡ count
    pub each : (k : ℕ) → k < count → slice_get seats k ≡ Some (new_worker z (k + 1))

  -- the worker holds slot i, where it claimed x
  abbrev pub holding : Worker T → ℕ → T → Worker T
  holding s i x = record { slots = s.slots; number = s.number; slot = Some i; claimed = Some x; found = [] }

  -- a failed claim of slot i met this word
  abbrev pub missing : Worker T → ℕ → Word → Worker T
  missing s i w = record { slots = s.slots; number = s.number; slot = s.slot; claimed = s.claimed; found = s.found ++ (i, w) ∷ [] }

  -- the worker holds no slot
  abbrev pub freed : Worker T → Worker T
  freed s = new_worker s.slots s.number

  -- the keeper knows slot i as p, and each other as before
  abbrev pub knowing : Keeper T → ℕ → Place T → Keeper T
  knowing k i p = record { slots = k.slots; places = slice_set k.places i p; workers = k.workers }

  -- the keeper keeps slot i with this body
  abbrev pub keeping : Keeper T → ℕ → Option T → Keeper T
  keeping k i body = knowing k i (place body (place_at k i).offered None)

  -- the keeper has offered slot i with the body that it had
  abbrev pub offering : Keeper T → ℕ → Keeper T
  offering k i = knowing k i (place None (place_at k i).kept None)

  -- the keeper found worker w at slot i
  abbrev pub finding : Keeper T → ℕ → ℕ → Keeper T
  finding k i w = knowing k i (place (place_at k i).kept (place_at k i).offered (Some w))
