-- How a core and the keeper's seat of its slots are tied.
use Rattle.std.specs.Prelude.{ℕ, ◌≡◌, ◌<◌, ◌≤◌, true, false, List, ◌++◌, length, Some, None}
use Rattle.fol_model.specs.declared.events.Entry.{Entry}
use Rattle.fol_model.specs.declared.events.Event.TheVariants.{Begin}
use Rattle.fol_model.specs.declared.regions.State.TheVariants.{Ticking}
use Rattle.fol_model.specs.GridNumbers.{IsGrid}
use Rattle.fol_model.specs.Run.{Allowed, world}
use Rattle.fol_laws.specs.LateBegin.{NoneTouches}
use Rattle.fol_data.specs.declared.tick.Tick.{Tick}
use Rattle.fol_core.specs.Ahead.{NonePrepared}
use Rattle.fol_core.specs.Answers.{is_over}
use Rattle.fol_core.specs.Meaning.{Meaning, is_prepared, world_of}
use Rattle.fol_core.specs.Ticks.{IsTick}
use Rattle.fol_tick_laws.specs.OpenTicks.{IsOpen}
use Rattle.fol_slots.specs.declared.view.Place.{Place}
use Rattle.fol_slots.specs.Shown.{Keeper, place_at}
use Rattle.fol_offers.specs.Offered.{Offered, nothing, of_tick}
use Rattle.fol_offers.specs.InTurn.{TakeTurns}
use Rattle.fol_offers.specs.Places.{region_at}

-- the tick of a prepared region waits for a worker: it was made at some place of the history, behind which nothing touched the region
pub record Waits (m : Meaning) (r : ℕ) (t : Tick) : Type 0 where
  pub prepared : is_prepared m r ≡ true
  pub before : List Entry
  pub between : List Entry
  pub history : m.history ≡ before ++ between
  pub calm : NoneTouches (world m.opening before) r between
  pub allowed : Allowed (world m.opening before) (Begin 0 r)
  pub is : IsTick (world m.opening before) (length before) 0 r t
  pub room : length t.due ≤ t.body.queues.spare

-- a worker was found to have the tick, whose Begin is recorded since, and which is open
pub record Runs (m : Meaning) (r k : ℕ) (t : Tick) : Type 0 where
  pub of : t.region ≡ r
  pub unprepared : is_prepared m r ≡ false
  pub opened : IsOpen m (record t { worker = k })

-- a slot in which the tick of region r was offered, which no keeper has since
pub record InUse (m : Meaning) (r : ℕ) (p : Place Offered) : Type 0 where
  pub kept : p.kept ≡ None
  pub tick : Tick
  pub offered : p.offered ≡ Some (of_tick tick)
  pub waits : p.found ≡ None → Waits m r tick
  pub runs : (k : ℕ) → p.found ≡ Some k → Runs m r k tick

-- the slots in use are those of the regions in the list, all others are kept with nothing in them, each prepared region has one, and each
-- Ticking region has one in which the worker that has its tick was found. The workers that have seats take turns
pub record Tied (m : Meaning) (s : Keeper Offered) (regions : List ℕ) : Type 0 where
  pub grid : IsGrid m.opening.grid
  pub in_turn : TakeTurns s.workers m.history
  -- once the history is over, no region is prepared
  pub calm : is_over (world_of m) ≡ true → NonePrepared m
  pub places : length s.places ≡ length regions
  pub slots : s.slots.slots ≡ length regions
  pub few : length regions < 65536
  pub unused : (i : ℕ) → i < length regions → region_at regions i ≡ 0 → (place_at s i).kept ≡ Some nothing
  pub used : (i : ℕ) → i < length regions → 0 < region_at regions i → InUse m (region_at regions i) (place_at s i)
  pub apart : (i j : ℕ) → i < length regions → j < length regions → 0 < region_at regions i → region_at regions i ≡ region_at regions j → i ≡ j
  pub prepared : (r : ℕ) → is_prepared m r ≡ true → (i : ℕ) × (0 < r) × (i < length regions) × (region_at regions i ≡ r)
  pub ticking : (r : ℕ) → (world_of m).grid.state r ≡ Ticking → (i : ℕ) × (k : ℕ) × (0 < r) × (i < length regions) × (region_at regions i ≡ r) × ((place_at s i).found ≡ Some k)
