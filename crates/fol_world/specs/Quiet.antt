-- Quiet ticks of a region.
use Rattle.std.specs.Prelude.{ℕ, zero, suc, ◌≡◌, ◌+◌, ◌-◌, ◌≤◌, true}
use Rattle.std.specs.Option.{ForSome}
use Rattle.fol_model.specs.ActionStep.{at_id}
use Rattle.fol_model.specs.Begin.{begin}
use Rattle.fol_model.specs.Counters.{owed_after_release, tick_after_release}
use Rattle.fol_model.specs.FlatTick.{moved}
use Rattle.fol_model.specs.GridState.{GridState}
use Rattle.fol_model.specs.Release.{release}
use Rattle.fol_chunks.specs.Contents.{is_recorded}
use Rattle.fol_store.specs.Bag.{is_whole}
use Rattle.fol_store.specs.Passing.{HoldsSame, nearer}
use Rattle.fol_store.specs.Stock.{Stock, bag_of, due_by, flat_of, jobs_of, next_of}
use Rattle.fol_regions.specs.Table.{grid_state}
use Rattle.fol_world.specs.declared.tables.Tables.{Tables}
use Rattle.fol_world.specs.Agenda.{GrowsBy, IsAgenda, owes}

-- a tick of the region without a due task needs no worker: it owes one, its bag holds all that lies on its chunks, and its release leaves the
-- grid, the counters and what regions owe as they were
pub record CanPass (g : GridState) (k : Stock) (id : ℕ) : Type 0 where
  pub owing : owes g (bag_of k) id ≡ true
  pub whole : is_whole (bag_of k id) ≡ true
  pub rests : release (begin g id) id ≡ g
  pub counters : (f : ℕ → ℕ) (r : ℕ) → tick_after_release (begin g id) id f r ≡ f r
  pub owed : (f : ℕ → ℕ) (r : ℕ) → owed_after_release (begin g id) id f r ≡ f r

-- the next n ticks of the region would be such ones: it owes as many, and no task is due in them
pub record IsQuiet (g : GridState) (k : Stock) (id n : ℕ) : Type 0 where
  pub each : CanPass g k id
  pub none_due : due_by n k id ≡ 0
  pub enough : n ≤ (bag_of k id).owed

-- such a tick passed: the counter of the region rose, what it owes and the rests of its tasks fell, its entities moved, and nothing else
-- changed
pub record PassesTick (old new : Tables) (id : ℕ) : Type 0 where
  pub bags : bag_of new.store ≡ at_id (bag_of old.store) id (record (bag_of old.store id) { tick = (bag_of old.store id).tick + 1; owed = (bag_of old.store id).owed - 1 })
  pub flat : flat_of new.store ≡ moved (is_recorded (bag_of old.store id).chunks) (flat_of old.store)
  pub jobs : jobs_of new.store ≡ λ n. nearer (is_recorded (bag_of old.store id).chunks) (jobs_of old.store n)
  pub later : (n : ℕ) → ForSome (jobs_of old.store n) (λ j. is_recorded (bag_of old.store id).chunks j.chunk ≡ true → 2 ≤ j.rest)
  pub next : next_of new.store ≡ next_of old.store
  pub regions : new.regions ≡ old.regions
  pub agenda : IsAgenda new.agenda.items (grid_state new.regions) (bag_of new.store)
  pub stack : GrowsBy 0 old.agenda new.agenda
  pub grid : new.grid ≡ old.grid
  pub tickets : new.tickets ≡ old.tickets
  pub course : new.course ≡ old.course

-- nothing changed but that regions may have left the stack
pub record OnlyTidies (old new : Tables) : Type 0 where
  pub store : HoldsSame old.store new.store
  pub regions : new.regions ≡ old.regions
  pub agenda : IsAgenda new.agenda.items (grid_state new.regions) (bag_of new.store)
  pub stack : GrowsBy 0 old.agenda new.agenda
  pub grid : new.grid ≡ old.grid
  pub tickets : new.tickets ≡ old.tickets
  pub course : new.course ≡ old.course

-- so many such ticks of a region passed, one after another
abbrev pub PassesTicks : ℕ → ℕ → Tables → Tables → Type 0
PassesTicks id zero old new = OnlyTidies old new
PassesTicks id (suc n) old new = (mid : Tables) × CanPass (grid_state old.regions) old.store id × PassesTick old mid id × PassesTicks id n mid new
