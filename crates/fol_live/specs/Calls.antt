-- What the calls of a shared world do: each but `try_begin` is one turn, in which the core did what its own call says. `now` is what the seat
-- shows while it has the turn and has recorded the Begins that it learnt of, and the words of a core speak of the cores that have just the
-- history that it has seen then, and after.
use Rattle.std.specs.Prelude.{ℕ, ◌≡◌, ◌≤◌, Bool, List, ◌++◌, Result, Some, None, IfOk, IfErr, OnOk, OnErr, length}
use Rattle.std.specs.List.{AllByRecursion}
use Rattle.std.specs.Global.{Box}
use Rattle.std.specs.declared.alloc.AllocError.{AllocError}
use Rattle.fol_model.specs.declared.places.ChunkPos.{ChunkPos}
use Rattle.fol_model.specs.declared.events.Entry.{Entry}
use Rattle.fol_model.specs.declared.events.Loaded.{Loaded}
use Rattle.fol_model.specs.declared.events.Unloaded.{Unloaded}
use Rattle.fol_model.specs.declared.actions.Action.{Action}
use Rattle.fol_model.specs.Outputs.{owner_rows}
use Rattle.fol_data.specs.declared.tick.Tick.{Tick}
use Rattle.fol_core.specs.declared.answers.Posting.{Posting}
use Rattle.fol_core.specs.declared.answers.Close.{Close}
use Rattle.fol_core.specs.declared.answers.Finish.{Finish}
use Rattle.fol_core.specs.Answers.{CloseRecords, FinishRecords, LoadRecords, PostRecords, StopRecords, UnloadRecords, close_result, finish_result, is_over, load_result, post_result, unload_result}
use Rattle.fol_world.specs.AtEnd.{end_event}
use Rattle.fol_core.specs.Meaning.{Records, Stays, world_of}
use Rattle.fol_core.specs.Ticks.{SameTick}
use Rattle.fol_slots.specs.Shown.{Worker}
use Rattle.fol_offers.specs.Offered.{Offered}
use Rattle.fol_offers.specs.Fit.{IsFitTick}
use Rattle.fol_offers.specs.PassedTicks.{PassesMany}
use Rattle.fol_live.specs.declared.answers.LivePhase.{LivePhase}
use Rattle.fol_live.specs.Hands.{MissesAll}
use Rattle.fol_live.specs.Results.{LivePhaseRecords, live_phase_result}
use Rattle.fol_live.specs.declared.answers.TryBegin.{TryBegin}
use Rattle.fol_live.specs.declared.answers.TryBegin.TheVariants.{Got, Idle}
use Rattle.fol_live.specs.declared.answers.Owners.{Owners}
use Rattle.fol_live.specs.Seat.{Shown, held, meaning_of}
use Rattle.fol_live.specs.Turned.{Adds, Looks}
use Rattle.fol_live.specs.Turns.{IsLate}

-- one turn of the seat: with the turn it had seen all of `now`, and added to it
pub record Turn (old now new : Shown) : Type 0 where
  pub looks : Looks old now
  pub added : List Entry
  pub adds : Adds now new added

-- the owners after all that the seat has seen now were asked for; nothing was recorded but Begins
pub record ListsOwners (old new : Shown) (r : Result Owners AllocError) : Type 0 where
  pub now : Shown
  pub turn : Turn old now new
  pub hand : new.hand ≡ old.hand
  pub same : Stays (meaning_of now) (meaning_of new)
  pub front : IfOk r (λ o. o.front ≡ length new.seen)
  pub rows : IfOk r (λ o. o.rows.items ≡ owner_rows (world_of (meaning_of new)))

-- a ticket to a chunk was asked for
pub record Loads (old new : Shown) (c : ChunkPos) (r : Result Loaded AllocError) : Type 0 where
  pub now : Shown
  pub turn : Turn old now new
  pub hand : new.hand ≡ old.hand
  pub answer : IfOk r (λ a. a ≡ load_result (world_of (meaning_of now)) c)
  pub recorded : IfOk r (λ a. LoadRecords (meaning_of now) (meaning_of new) old.number c a)
  pub refused : OnErr r (Stays (meaning_of now) (meaning_of new))

-- a ticket of a chunk was given up
pub record Unloads (old new : Shown) (c : ChunkPos) (r : Result Unloaded AllocError) : Type 0 where
  pub now : Shown
  pub turn : Turn old now new
  pub hand : new.hand ≡ old.hand
  pub answer : IfOk r (λ a. a ≡ unload_result (world_of (meaning_of now)) c)
  pub recorded : IfOk r (λ a. UnloadRecords (meaning_of now) (meaning_of new) old.number c a)
  pub refused : OnErr r (Stays (meaning_of now) (meaning_of new))

-- a task was asked for; out of memory hands the action back
pub record Posts (old new : Shown) (c : ChunkPos) (d : ℕ) (x : Action) (r : Result Posting Action) : Type 0 where
  pub now : Shown
  pub turn : Turn old now new
  pub hand : new.hand ≡ old.hand
  pub answer : IfOk r (λ a. a ≡ post_result (world_of (meaning_of now)) c x)
  pub recorded : IfOk r (λ a. PostRecords (meaning_of now) (meaning_of new) old.number c d x a)
  pub back : IfErr r (λ a. a ≡ x)
  pub refused : OnErr r (Stays (meaning_of now) (meaning_of new))

-- a phase was asked for
pub record Opens (old new : Shown) (n : ℕ) (r : Result LivePhase AllocError) : Type 0 where
  pub now : Shown
  pub turn : Turn old now new
  pub hand : new.hand ≡ old.hand
  pub answer : IfOk r (λ a. a ≡ live_phase_result (world_of (meaning_of now)) n)
  pub recorded : IfOk r (λ a. LivePhaseRecords (meaning_of now) (meaning_of new) old.number n a)
  pub refused : OnErr r (Stays (meaning_of now) (meaning_of new))

-- the end of the phase was asked for
pub record Closes (old new : Shown) (r : Result Close AllocError) : Type 0 where
  pub now : Shown
  pub turn : Turn old now new
  pub hand : new.hand ≡ old.hand
  pub answer : IfOk r (λ a. a ≡ close_result (world_of (meaning_of now)))
  pub recorded : IfOk r (λ a. CloseRecords (meaning_of now) (meaning_of new) old.number a)
  pub refused : OnErr r (Stays (meaning_of now) (meaning_of new))

-- the end of the history was asked for
pub record Finishes (old new : Shown) (r : Result Finish AllocError) : Type 0 where
  pub now : Shown
  pub turn : Turn old now new
  pub hand : new.hand ≡ old.hand
  pub answer : IfOk r (λ a. a ≡ finish_result (world_of (meaning_of now)))
  pub recorded : IfOk r (λ a. FinishRecords (meaning_of now) (meaning_of new) old.number a)
  pub refused : OnErr r (Stays (meaning_of now) (meaning_of new))

-- the seat gave up
pub record Stops (old new : Shown) : Type 0 where
  pub now : Shown
  pub turn : Turn old now new
  pub hand : new.hand ≡ old.hand
  pub recorded : StopRecords (meaning_of now) (meaning_of new) old.number (is_over (world_of (meaning_of now)))

-- it was asked whether the history is over
pub record AsksForEnd (old new : Shown) (over : Bool) : Type 0 where
  pub now : Shown
  pub turn : Turn old now new
  pub hand : new.hand ≡ old.hand
  pub same : Stays (meaning_of now) (meaning_of new)
  pub answer : over ≡ is_over (world_of (meaning_of new))

-- ---- ticks

-- the seat claimed this tick, which was made before; it has seen no more than that
pub record Claims (old new : Shown) (tick : Tick) : Type 0 where
  pub same : new ≡ record old { hand = new.hand }
  pub offered : Tick
  pub holds : held new ≡ Some offered
  pub fit : IsFitTick offered
  pub is : tick ≡ record offered { worker = old.number }

-- the seat found no slot ready, and has seen no more than before
pub record Misses (old new : Shown) : Type 0 where
  pub worker : Worker Offered
  pub after : Worker Offered
  pub was : old.hand ≡ Some worker
  pub misses : MissesAll worker after
  pub is : new ≡ record old { hand = Some after }

-- a tick was asked for, without a turn
abbrev pub TriesToBegin : Shown → Shown → TryBegin → Type 0
TriesToBegin old new (Got boxed) = Claims old new boxed.value
TriesToBegin old new Idle = Misses old new

-- behind what the seat showed, it recorded Begins that it learnt of, and then quiet ticks of whichever regions, at most so many
pub record PassesOn (old new : Shown) (most : ℕ) : Type 0 where
  pub now : Shown
  pub learnt : List Entry
  pub late : AllByRecursion (IsLate old.number) learnt
  pub seen : now.seen ≡ old.seen ++ learnt
  pub opening : now.opening ≡ old.opening
  pub count : ℕ
  pub few : count ≤ most
  pub passes : PassesMany (meaning_of now) (meaning_of new) old.number count

-- a tick was given back: the answer is how long the history is with its End; out of memory hands the same tick back. `ended` is what the seat
-- would show right behind the End
pub record Releases (old new : Shown) (tick : Tick) (most : ℕ) (r : Result ℕ (Box Tick)) : Type 0 where
  pub now : Shown
  pub turn : Turn old now new
  pub ended : Shown
  pub number : ended.number ≡ old.number
  pub told : IfOk r (λ n. n ≡ length ended.seen)
  pub recorded : OnOk r (Records (meaning_of now) (meaning_of ended) tick.worker (end_event (world_of (meaning_of now)) tick.worker tick.region tick.log.ran))
  pub passed : OnOk r (PassesOn ended new most)
  pub free : OnOk r (held new ≡ None)
  pub back : IfErr r (λ t. SameTick tick t.value)
  pub kept : OnErr r (new.hand ≡ old.hand)
  pub refused : OnErr r (Stays (meaning_of now) (meaning_of new))
