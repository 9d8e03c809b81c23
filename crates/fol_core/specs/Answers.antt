-- What each call of a core answers in a world, and what it records.
use Rattle.std.specs.Prelude.{◌≡◌, ℕ, ◌<◌, Bool, true, false, not, ◌&&◌, ◌||◌, nat_lt, if◌then◌else◌, length, Option, Some, None}
use Rattle.fol_model.specs.declared.places.ChunkPos.{ChunkPos}
use Rattle.fol_model.specs.declared.regions.State.{State}
use Rattle.fol_model.specs.declared.events.Loaded.{Loaded}
use Rattle.fol_model.specs.declared.events.Loaded.TheVariants as loads
use Rattle.fol_model.specs.declared.events.Unloaded.{Unloaded}
use Rattle.fol_model.specs.declared.events.Unloaded.TheVariants as unloads
use Rattle.fol_model.specs.declared.events.Accept.{Accept}
use Rattle.fol_model.specs.declared.events.Accept.TheVariants as accepts
use Rattle.fol_model.specs.declared.events.Event.TheVariants as events
use Rattle.fol_model.specs.declared.actions.Action.{Action}
use Rattle.fol_model.specs.Counting.{some_below, least}
use Rattle.fol_model.specs.GridState.{is_ready, is_ticking, present_count, GridState}
use Rattle.fol_model.specs.Add.{is_full, wanted}
use Rattle.fol_model.specs.World.{World}
use Rattle.fol_model.specs.Run.{load_answer, unload_answer}
use Rattle.fol_core.specs.Meaning.{Meaning, Records, Unchanged, is_prepared, world_of}
use Rattle.fol_core.specs.Ticks.{IsTick}
use Rattle.fol_core.specs.declared.answers.Posting.{Posting}
use Rattle.fol_core.specs.declared.answers.Posting.TheVariants as postings
use Rattle.fol_core.specs.declared.answers.Phase.{Phase}
use Rattle.fol_core.specs.declared.answers.Phase.TheVariants as phases
use Rattle.fol_core.specs.declared.answers.Close.{Close}
use Rattle.fol_core.specs.declared.answers.Close.TheVariants as closes
use Rattle.fol_core.specs.declared.answers.CloseFault.{CloseFault}
use Rattle.fol_core.specs.declared.answers.CloseFault.TheVariants as faults
use Rattle.fol_core.specs.declared.answers.Finish.{Finish}
use Rattle.fol_core.specs.declared.answers.Finish.TheVariants as finishes
use Rattle.fol_core.specs.declared.answers.BeginAnswer.{BeginAnswer}
use Rattle.fol_core.specs.declared.answers.BeginAnswer.TheVariants.{Got, NotReady, NotOwing, Over}
use Rattle.std.specs.List.{find}
use Rattle.fol_world.specs.Closings.{ticks_in, live_in}

-- Finish or Stop stands in the history
abbrev pub is_over : World → Bool
is_over w = w.finished || w.stopped

-- the region is Ready and owes a tick
abbrev pub is_owing : World → ℕ → Bool
is_owing w r = is_ready (w.grid.state r) && nat_lt 0 (w.owed r)

-- the region is Ready, owes a tick and is not prepared
abbrev pub is_free : Meaning → ℕ → Bool
is_free m r = is_owing (world_of m) r && not (is_prepared m r)

-- a phase can't be closed for this region
abbrev pub is_busy : World → ℕ → Bool
is_busy w r = is_ticking (w.grid.state r) || is_owing w r

-- ---- loads, unloads and posts

abbrev pub load_result : World → ChunkPos → Loaded
load_result w c = if w.finished then loads.Over else load_answer w c

-- every answer but Over is recorded
abbrev pub LoadRecords : Meaning → Meaning → ℕ → ChunkPos → Loaded → Type 0
LoadRecords old new caller c loads.Over = Unchanged old new
LoadRecords old new caller c answer = Records old new caller (events.Load caller c answer)

abbrev pub unload_result : World → ChunkPos → Unloaded
unload_result w c = if w.finished then unloads.Over else unload_answer w c

abbrev pub UnloadRecords : Meaning → Meaning → ℕ → ChunkPos → Unloaded → Type 0
UnloadRecords old new caller c unloads.Over = Unchanged old new
UnloadRecords old new caller c answer = Records old new caller (events.Unload caller c answer)

-- what a recorded answer tells
abbrev pub posting_of : Accept → Posting
posting_of (accepts.Posted n) = postings.Posted n
posting_of (accepts.Full present wanted) = postings.Full present wanted

-- Over hands the action back
abbrev pub post_result : World → ChunkPos → Action → Posting
post_result w c a =
    if w.finished then postings.Over a
    else (if is_full w.grid c then postings.Full (present_count w.grid) (wanted w.grid c) else postings.Posted w.next_job)

abbrev pub PostRecords : Meaning → Meaning → ℕ → ChunkPos → ℕ → Action → Posting → Type 0
PostRecords old new caller c d a (postings.Posted n) = Records old new caller (events.Post caller c d a (accepts.Posted n))
PostRecords old new caller c d a (postings.Full present wanted) = Records old new caller (events.Post caller c d a (accepts.Full present wanted))
PostRecords old new caller c d a (postings.Over action) = Unchanged old new

-- ---- phases

abbrev pub phase_result : World → Phase
phase_result w = if is_over w then phases.Over else (if w.in_phase then phases.InPhase else phases.Opened)

abbrev pub PhaseRecords : Meaning → Meaning → ℕ → ℕ → Phase → Type 0
PhaseRecords old new by n phases.Opened = Records old new by (events.PhaseOpen n)
PhaseRecords old new by n answer = Unchanged old new

abbrev pub close_result : World → Close
close_result w =
    if is_over w then closes.Over
    else (if w.in_phase then (if some_below (is_busy w) w.grid.next then closes.NotYet (least (is_busy w) w.grid.next) else closes.Closed)
    else closes.NoPhase)

abbrev pub CloseRecords : Meaning → Meaning → ℕ → Close → Type 0
CloseRecords old new by closes.Closed = Records old new by events.PhaseClose
CloseRecords old new by answer = Unchanged old new

abbrev pub finish_result : World → Finish
finish_result w = if is_over w then finishes.Over else (if w.in_phase then finishes.InPhase else finishes.Finished)

abbrev pub FinishRecords : Meaning → Meaning → ℕ → Finish → Type 0
FinishRecords old new by finishes.Finished = Records old new by events.Finish
FinishRecords old new by answer = Unchanged old new

-- a Stop is recorded unless the history is over
abbrev pub StopRecords : Meaning → Meaning → ℕ → Bool → Type 0
StopRecords old new caller true = Unchanged old new
StopRecords old new caller false = Records old new caller (events.Stop caller)

-- ---- ticks

-- each answer with what has to hold for it, and what it leaves
abbrev pub Begins : Meaning → Meaning → ℕ → ℕ → ℕ → BeginAnswer → Type 0
Begins old new by worker id (Got tick) = (is_over (world_of old) ≡ false) × (is_owing (world_of old) id ≡ true) × IsTick (world_of old) (length old.history) worker id tick × Records old new by (events.Begin worker id)
Begins old new by worker id (NotReady state) = (is_over (world_of old) ≡ false) × (is_ready state ≡ false) × (state ≡ (world_of old).grid.state id) × Unchanged old new
Begins old new by worker id NotOwing = (is_over (world_of old) ≡ false) × (is_ready ((world_of old).grid.state id) ≡ true) × ((world_of old).owed id ≡ 0) × Unchanged old new
Begins old new by worker id Over = (is_over (world_of old) ≡ true) × Unchanged old new

-- ---- the closing

abbrev pub is_ticking_in : World → ℕ → Bool
is_ticking_in w r = is_ticking (w.grid.state r)

-- a region ticks, and this is the lowest such one; out of memory needs no cause
abbrev pub Faults : World → CloseFault → Type 0
Faults w (faults.Ticking r) = (some_below (is_ticking_in w) w.grid.next ≡ true) × (r ≡ least (is_ticking_in w) w.grid.next)
Faults w faults.NoMemory = Unit {0}

-- a region ticks, and this is the first such one; out of memory needs no cause
abbrev pub FindsTicking : GridState → CloseFault → Type 0
FindsTicking g (faults.Ticking r) = find (ticks_in g) (live_in g) ≡ Some r
FindsTicking g faults.NoMemory = Unit {0}

-- ---- queries

-- the id was given out to a region
pub record IsGiven (w : World) (id : ℕ) : Type 0 where
  pub above : 0 < id
  pub below : id < w.grid.next

-- nothing for 0
abbrev pub some_id : ℕ → Option ℕ
some_id r = if nat_lt 0 r then Some r else None

-- the state of an id that was given out
abbrev pub state_result : World → ℕ → Option State
state_result w id = if (nat_lt 0 id && nat_lt id w.grid.next) then Some (w.grid.state id) else None
