-- What contracts see of a core whose ticks are offered.
use Rattle.std.specs.Prelude.{ℕ, ◌≡◌, ◌⊎◌, ◌<◌, Bool, true, false, not, ◌&&◌, List, ◌++◌, nat_eq, Option, Some, None, Result, IfOk, IsErr, OnErr}
use Rattle.std.specs.List.{AllByRecursion}
use Rattle.std.specs.declared.alloc.AllocError.{AllocError}
use Rattle.atomic_table.specs.Seated.{TableId}
use Rattle.fol_model.specs.declared.places.ChunkPos.{ChunkPos}
use Rattle.fol_model.specs.declared.actions.Action.{Action}
use Rattle.fol_model.specs.declared.events.Loaded.{Loaded}
use Rattle.fol_model.specs.declared.events.Unloaded.{Unloaded}
use Rattle.fol_model.specs.declared.events.Entry.{Entry}
use Rattle.fol_model.specs.declared.events.Event.TheVariants.{Begin}
use Rattle.fol_model.specs.World.{World}
use Rattle.fol_core.specs.declared.answers.Posting.{Posting}
use Rattle.fol_core.specs.Ahead.{Prepares, may_touch}
use Rattle.fol_core.specs.Answers.{LoadRecords, PostRecords, StopRecords, UnloadRecords, is_free, is_over, load_result, post_result, unload_result}
use Rattle.fol_core.specs.Meaning.{Meaning, Stays, is_prepared, world_of}
use Rattle.fol_offers.specs.PassedTicks.{PassesMany}

-- the core, which slots its ticks are offered in, and how many workers have seats there, which are numbered from 1
pub record Shown : Type 0 where
  pub core : Meaning
  pub slots : TableId
  pub workers : ℕ

-- one of these regions was prepared, and this seat recorded the Begin of the worker that has its tick
pub record IsLearnt (m : Meaning) (called : ℕ → Bool) (by : ℕ) (e : Entry) : Type 0 where
  pub worker : ℕ
  pub region : ℕ
  pub is : e ≡ record { by = by; event = Begin worker region }
  pub prepared : is_prepared m region ≡ true
  pub chosen : called region ≡ true

-- the ticks of these regions are offered no more: each came back untouched, or the Begin of the worker that has it was recorded. No other
-- tick was called back
pub record CallsBack (old new : Shown) (by : ℕ) (called : ℕ → Bool) : Type 0 where
  pub slots : new.slots ≡ old.slots
  pub workers : new.workers ≡ old.workers
  pub opening : new.core.opening ≡ old.core.opening
  pub learnt : List Entry
  pub history : new.core.history ≡ old.core.history ++ learnt
  pub begins : AllByRecursion (IsLearnt old.core called by) learnt
  pub prepared : (r : ℕ) → is_prepared new.core r ≡ (is_prepared old.core r && not (called r))

-- each region
abbrev pub every : ℕ → Bool
every r = true

-- the core answered and recorded, once the ticks of these regions were called back; where memory ran out, that may have been before they were
pub record Follows {A E : Type 0} (old new : Shown) (by : ℕ) (called : ℕ → Bool) (gives : World → A) (records : Meaning → Meaning → A → Type 0) (r : Result A E) : Type 0 where
  pub cleared : Shown
  pub clears : CallsBack old cleared by called ⊎ (IsErr r × (cleared ≡ old))
  pub slots : new.slots ≡ old.slots
  pub workers : new.workers ≡ old.workers
  pub answer : IfOk r (λ a. a ≡ gives (world_of cleared.core))
  pub recorded : IfOk r (λ a. records cleared.core new.core a)
  pub refused : OnErr r (Stays cleared.core new.core)

-- a ticket was asked for, once what that may touch was called back
abbrev pub Loads : Shown → Shown → ℕ → ChunkPos → Result Loaded AllocError → Type 0
Loads old new by c = Follows old new by (may_touch (world_of old.core) c) (λ w. load_result w c) (λ m n a. LoadRecords m n by c a)

-- the same of a ticket that was given up
abbrev pub Unloads : Shown → Shown → ℕ → ChunkPos → Result Unloaded AllocError → Type 0
Unloads old new by c = Follows old new by (may_touch (world_of old.core) c) (λ w. unload_result w c) (λ m n a. UnloadRecords m n by c a)

-- and of a task
abbrev pub Posts : Shown → Shown → ℕ → ChunkPos → ℕ → Action → Result Posting Action → Type 0
Posts old new by c d x = Follows old new by (may_touch (world_of old.core) c) (λ w. post_result w c x) (λ m n a. PostRecords m n by c d x a)

-- no tick is left to be offered: the history is over, or no region is Ready, owes a tick and is not prepared
abbrev pub NoneFree : Meaning → Type 0
NoneFree m = (is_over (world_of m) ≡ true) ⊎ ((r : ℕ) → 0 < r → r < (world_of m).grid.next → is_free m r ≡ false)

-- a region that is Ready, owes a tick and was not prepared is prepared now; or there was none, or the history is over
abbrev pub OffersNext : Meaning → Meaning → Option ℕ → Type 0
OffersNext old new (Some r) = (is_over (world_of old) ≡ false) × (is_free old r ≡ true) × Prepares old new r
OffersNext old new None = Stays old new × NoneFree old

-- some regions that were Ready, owed a tick and were not prepared are so now, and nothing else has changed
pub record OffersMore (old new : Shown) : Type 0 where
  pub slots : new.slots ≡ old.slots
  pub workers : new.workers ≡ old.workers
  pub opening : new.core.opening ≡ old.core.opening
  pub history : new.core.history ≡ old.core.history
  pub prepared : (r : ℕ) → is_prepared old.core r ≡ true → is_prepared new.core r ≡ true
  pub free : (r : ℕ) → is_prepared new.core r ≡ true → (is_prepared old.core r ≡ true) ⊎ (is_free old.core r ≡ true)

-- the tick of the region was called back, if it was offered, and then the worker passed so many quiet ticks of whichever regions
pub record PassesOver (old new : Shown) (by region n : ℕ) : Type 0 where
  pub cleared : Shown
  pub clears : CallsBack old cleared by (nat_eq region)
  pub slots : new.slots ≡ old.slots
  pub workers : new.workers ≡ old.workers
  pub passes : PassesMany cleared.core new.core by n

-- a Stop was recorded, unless the history was over, once every offered tick was called back
pub record Stops (old new : Shown) (by : ℕ) : Type 0 where
  pub recalled : Shown
  pub recalls : CallsBack old recalled by every
  pub slots : new.slots ≡ old.slots
  pub workers : new.workers ≡ old.workers
  pub recorded : StopRecords recalled.core new.core by (is_over (world_of old.core))
