-- The tables run ahead of the history: in them a region has begun whose tick is out before a Begin of it is recorded.
use Rattle.std.specs.Prelude.{ℕ, ◌≡◌, ◌+◌, ◌<◌, Bool, true, false, ◌&&◌, ◌||◌, List, [], ◌∷◌, ◌++◌, length, Some}
use Rattle.fol_model.specs.declared.openings.Opening.{Opening}
use Rattle.fol_model.specs.declared.events.Entry.{Entry}
use Rattle.fol_model.specs.declared.events.Event.TheVariants.{Begin}
use Rattle.fol_model.specs.declared.places.ChunkPos.{ChunkPos}
use Rattle.fol_model.specs.GridNumbers.{IsGrid}
use Rattle.fol_model.specs.GridState.{is_ready}
use Rattle.fol_model.specs.Counting.{count_below}
use Rattle.fol_model.specs.ActionStep.{at_id}
use Rattle.fol_model.specs.Job.{Job}
use Rattle.fol_model.specs.World.{World}
use Rattle.fol_model.specs.Run.{Run, world}
use Rattle.fol_laws.specs.Growth.{answered}
use Rattle.fol_laws.specs.LateBegin.{draws_in, ground}
use Rattle.fol_early_laws.specs.EarlyBegins.{IsAhead}
use Rattle.fol_world.specs.declared.tables.Tables.{Tables}
use Rattle.fol_world.specs.Hands.{owner_of, since, went}
use Rattle.fol_core.specs.Meaning.{Meaning, is_prepared, world_of}
use Rattle.fol_world.specs.Stands.{Stands}

-- a queued task of w went with an open tick in x exactly where it went with one in w, or is on a chunk of a marked region; h and f are the
-- numbers of the next task at the last Begin of each region, in w and in x
abbrev pub Goes : (ℕ → Bool) → World → World → (ℕ → ℕ) → (ℕ → ℕ) → Type 0
Goes p w x h f = (n : ℕ) (j : Job) → w.jobs n ≡ Some j → j.taker ≡ 0
    → went x.grid f j.chunk n ≡ (went w.grid h j.chunk n || p (owner_of w.grid j.chunk))

-- a run whose world is the one after the history where the marked regions have begun already
pub record AheadRun (o : Opening) (h : List Entry) (p : ℕ → Bool) : Type 0 where
  pub entries : List Entry
  pub run : Run o entries
  pub is : IsAhead p (world o h) (world o entries)
  pub goes : Goes p (world o h) (world o entries) (since o h) (since o entries)
  -- it has a Begin more for each marked region
  pub size : length entries + answered entries ≡ length h + answered h + count_below p (world o h).grid.next

-- each region of q is one of p
abbrev pub AreAmong : (ℕ → Bool) → (ℕ → Bool) → Type 0
AreAmong q p = (r : ℕ) → q r ≡ true → p r ≡ true

-- the history is a run, and there is one ahead of it, with the Begins of all marked regions, and one with those of any of them alone
pub record RunsAhead (o : Opening) (h : List Entry) (p : ℕ → Bool) : Type 0 where
  pub grid : IsGrid o.grid
  pub run : Run o h
  pub ahead : AheadRun o h p
  pub others : (q : ℕ → Bool) → AreAmong q p → AheadRun o h q

-- the tables stand for the world after the history in which each marked region, which is Ready and owes a tick, has begun
pub record StandsAhead (o : Opening) (h : List Entry) (p : ℕ → Bool) (t : Tables) : Type 0 where
  pub runs : RunsAhead o h p
  pub stands : Stands o runs.ahead.entries t

-- ---- what the calls promise

-- the region is Ready, and an event on the chunk may touch it: it owns the section of the chunk, or an added hold would draw it in
abbrev pub may_touch : World → ChunkPos → ℕ → Bool
may_touch w c r = is_ready (w.grid.state r) && (ground w.grid r c || draws_in w.grid c r)

-- each prepared region is Ready, and its id was given out
abbrev pub PreparedAreReady : Meaning → Type 0
PreparedAreReady m = (r : ℕ) → is_prepared m r ≡ true → (r < (world_of m).grid.next) × (is_ready ((world_of m).grid.state r) ≡ true)

-- no region is prepared
abbrev pub NonePrepared : Meaning → Type 0
NonePrepared m = (r : ℕ) → is_prepared m r ≡ false

-- no prepared region is one of these
abbrev pub Spares : Meaning → (ℕ → Bool) → Type 0
Spares m touched = (r : ℕ) → is_prepared m r ≡ true → touched r ≡ false

-- the region is prepared from now on, and nothing else has changed but what memory was taken
pub record Prepares (old new : Meaning) (id : ℕ) : Type 0 where
  pub opening : new.opening ≡ old.opening
  pub history : new.history ≡ old.history
  pub prepared : is_prepared new ≡ at_id (is_prepared old) id true

-- the region is prepared no more, and nothing else has changed
pub record Withdraws (old new : Meaning) (id : ℕ) : Type 0 where
  pub opening : new.opening ≡ old.opening
  pub history : new.history ≡ old.history
  pub prepared : is_prepared new ≡ at_id (is_prepared old) id false

-- the Begin of a prepared region by this worker is recorded, and the region is prepared no more
pub record Learns (old new : Meaning) (by worker id : ℕ) : Type 0 where
  pub opening : new.opening ≡ old.opening
  pub history : new.history ≡ old.history ++ (record { by = by; event = Begin worker id }) ∷ []
  pub prepared : is_prepared new ≡ at_id (is_prepared old) id false
