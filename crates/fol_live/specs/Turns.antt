-- What each call of a world does: Begins that the seat learns of are recorded first, and then its own event.
use Rattle.std.specs.Prelude.{ℕ, ◌≡◌, ◌≤◌, true, List, ◌++◌, length, Result, Some, IfOk, OnErr, OnOk}
use Rattle.std.specs.List.{AllByRecursion}
use Rattle.std.specs.declared.alloc.AllocError.{AllocError}
use Rattle.fol_model.specs.declared.places.ChunkPos.{ChunkPos}
use Rattle.fol_model.specs.declared.actions.Action.{Action}
use Rattle.fol_model.specs.declared.events.Loaded.{Loaded}
use Rattle.fol_model.specs.declared.events.Unloaded.{Unloaded}
use Rattle.fol_model.specs.declared.events.Entry.{Entry}
use Rattle.fol_model.specs.World.{World}
use Rattle.fol_data.specs.declared.tick.Tick.{Tick}
use Rattle.fol_core.specs.declared.answers.Posting.{Posting}
use Rattle.fol_core.specs.declared.answers.Close.{Close}
use Rattle.fol_core.specs.declared.answers.Finish.{Finish}
use Rattle.fol_core.specs.Answers.{CloseRecords, FinishRecords, LoadRecords, PostRecords, StopRecords, UnloadRecords, close_result, finish_result, is_over, load_result, post_result, unload_result}
use Rattle.fol_core.specs.Meaning.{Meaning, Records, Stays, world_of}
use Rattle.fol_seat_laws.specs.Signed.{is_start}
use Rattle.fol_slots.specs.Shown.{Worker}
use Rattle.fol_tick_laws.specs.OpenTicks.{IsOpen}
use Rattle.fol_world.specs.AtEnd.{end_event}
use Rattle.fol_offers.specs.Offered.{Offered, of_tick}
use Rattle.fol_offers.specs.PassedTicks.{PassesMany}
use Rattle.fol_live.specs.declared.answers.LivePhase.{LivePhase}
use Rattle.fol_live.specs.Results.{LivePhaseRecords, live_phase_result}
use Rattle.fol_live.specs.Kept.{IsKept}
use Rattle.fol_live.specs.Shown.{Shown, meaning_of}

-- a Begin, of whichever worker, that this seat recorded
pub record IsLate (by : ℕ) (e : Entry) : Type 0 where
  pub own : e.by ≡ by
  pub begins : is_start e.event ≡ true

-- the same world, with another history
pub record SameWorld (old new : Shown) : Type 0 where
  pub opening : new.opening ≡ old.opening
  pub slots : new.slots ≡ old.slots
  pub workers : new.workers ≡ old.workers

-- the seat recorded Begins that it learnt of, or none
pub record Learns (old new : Shown) (by : ℕ) : Type 0 where
  pub same : SameWorld old new
  pub learnt : List Entry
  pub history : new.history ≡ old.history ++ learnt
  pub late : AllByRecursion (IsLate by) learnt
  pub keeps : IsKept new

-- it recorded Begins that it learnt of; then the world was `now`, gave this answer, and recorded it. Want of memory records no event
pub record Answers {A E : Type 0} (old new : Shown) (by : ℕ) (gives : World → A) (records : Meaning → Meaning → A → Type 0) (r : Result A E) : Type 0 where
  pub now : Shown
  pub learns : Learns old now by
  pub answer : IfOk r (λ a. a ≡ gives (world_of (meaning_of now)))
  pub recorded : IfOk r (λ a. records (meaning_of now) (meaning_of new) a)
  pub refused : OnErr r (Stays (meaning_of now) (meaning_of new))
  pub same : SameWorld now new
  pub keeps : IsKept new

abbrev pub Loads : Shown → Shown → ℕ → ChunkPos → Result Loaded AllocError → Type 0
Loads old new by c = Answers old new by (λ w. load_result w c) (λ m n a. LoadRecords m n by c a)

abbrev pub Unloads : Shown → Shown → ℕ → ChunkPos → Result Unloaded AllocError → Type 0
Unloads old new by c = Answers old new by (λ w. unload_result w c) (λ m n a. UnloadRecords m n by c a)

abbrev pub Posts : Shown → Shown → ℕ → ChunkPos → ℕ → Action → Result Posting Action → Type 0
Posts old new by c d x = Answers old new by (λ w. post_result w c x) (λ m n a. PostRecords m n by c d x a)

abbrev pub Opens : Shown → Shown → ℕ → ℕ → Result LivePhase AllocError → Type 0
Opens old new by n = Answers old new by (λ w. live_phase_result w n) (λ m k a. LivePhaseRecords m k by n a)

abbrev pub Closes : Shown → Shown → ℕ → Result Close AllocError → Type 0
Closes old new by = Answers old new by close_result (λ m n a. CloseRecords m n by a)

abbrev pub Finishes : Shown → Shown → ℕ → Result Finish AllocError → Type 0
Finishes old new by = Answers old new by finish_result (λ m n a. FinishRecords m n by a)

-- the seat gave up
pub record Stops (old new : Shown) (by : ℕ) : Type 0 where
  pub now : Shown
  pub learns : Learns old now by
  pub recorded : StopRecords (meaning_of now) (meaning_of new) by (is_over (world_of (meaning_of now)))
  pub same : SameWorld now new
  pub keeps : IsKept new

-- the tick that the worker claimed is open, as a tick of this worker
abbrev pub HasOpen : Shown → Worker Offered → Type 0
HasOpen s seat = (t : Tick) → seat.claimed ≡ Some (of_tick t) → IsOpen (meaning_of s) (record t { worker = seat.number })

-- the worker recorded Begins that it learnt of, and behind them quiet ticks of whichever regions, at most so many
pub record PassesOn (old new : Shown) (by most : ℕ) : Type 0 where
  pub now : Shown
  pub learns : Learns old now by
  pub count : ℕ
  pub few : count ≤ most
  pub passes : PassesMany (meaning_of now) (meaning_of new) by count
  pub same : SameWorld now new
  pub keeps : IsKept new

-- the tick of a worker was given back
pub record Ends {E : Type 0} (old new : Shown) (tick : Tick) (r : Result ℕ E) : Type 0 where
  pub now : Shown
  pub learns : Learns old now tick.worker
  pub told : IfOk r (λ n. n ≡ length new.history)
  pub recorded : OnOk r (Records (meaning_of now) (meaning_of new) tick.worker (end_event (world_of (meaning_of now)) tick.worker tick.region tick.log.ran))
  pub refused : OnErr r (Stays (meaning_of now) (meaning_of new))
  pub same : SameWorld now new
  pub keeps : IsKept new

-- and ticks behind it may have been passed over
pub record EndsAndPasses {E : Type 0} (old new : Shown) (tick : Tick) (most : ℕ) (r : Result ℕ E) : Type 0 where
  pub ended : Shown
  pub ends : Ends old ended tick r
  pub passed : OnOk r (PassesOn ended new tick.worker most)
  pub refused : OnErr r (new ≡ ended)
