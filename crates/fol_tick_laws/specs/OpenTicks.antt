-- Ticks that are open at once.
use Rattle.std.specs.Prelude.{ℕ, ◌≡◌, ◌≢◌, false, List, ◌++◌, length}
use Rattle.fol_model.specs.declared.events.Entry.{Entry}
use Rattle.fol_model.specs.declared.events.Event.{Event}
use Rattle.fol_model.specs.declared.events.Event.TheVariants.{Begin}
use Rattle.fol_model.specs.GridNumbers.{IsGrid}
use Rattle.fol_model.specs.OpenTick.{is_end}
use Rattle.fol_model.specs.Run.{Allowed, Run, world}
use Rattle.fol_laws.specs.LateBegin.{NoneTouches, is_stop, touches}
use Rattle.fol_data.specs.declared.tick.Tick.{Tick}
use Rattle.fol_tick.specs.Calls.{HostCall}
use Rattle.fol_tick.specs.Runs.{Finishes, MayRun}
use Rattle.fol_core.specs.Ahead.{Learns}
use Rattle.fol_core.specs.Answers.{Begins}
use Rattle.fol_core.specs.declared.answers.BeginAnswer.TheVariants.{Got}
use Rattle.fol_core.specs.Meaning.{Meaning, Records, world_of}
use Rattle.fol_core.specs.Ticks.{IsBegun, IsOut, IsTick}

-- the tick is open in the history, and none of its tasks has run
pub record IsOpen (m : Meaning) (tick : Tick) : Type 0 where
  pub made : IsBegun m.opening m.history tick.worker tick.region
  pub is : IsTick (world m.opening made.before) (length made.before) tick.worker tick.region tick

-- each open tick is still open
abbrev pub KeepsOpen : Meaning → Meaning → Type 0
KeepsOpen old new = (t : Tick) → IsOpen old t → IsOpen new t

-- each open tick of another region is still open
abbrev pub KeepsOthers : Meaning → Meaning → ℕ → Type 0
KeepsOthers old new r = (t : Tick) → t.region ≢ r → IsOpen old t → IsOpen new t

-- nothing that was recorded since touched the region, and no Stop is among it
pub record IsUntouched (made now : Meaning) (r : ℕ) : Type 0 where
  pub opening : now.opening ≡ made.opening
  pub between : List Entry
  pub history : now.history ≡ made.history ++ between
  pub calm : NoneTouches (world_of made) r between

-- whenever it was that nothing touched the region since, nothing has now
abbrev pub KeepsUntouched : Meaning → Meaning → ℕ → Type 0
KeepsUntouched old new r = (made : Meaning) → IsUntouched made old r → IsUntouched made new r

-- ---- laws

-- the tick that a Begin gives out is open
abbrev pub BegunTickIsOpen : Type 0
BegunTickIsOpen = (old new : Meaning) (by worker region : ℕ) (tick : Tick) → Begins old new by worker region (Got tick) → IsOpen new tick

-- so is the tick that was made before its Begin was recorded, once that is learnt, by the worker that the Begin names: where the Begin was
-- allowed when the tick was made, and nothing that was recorded since touched the region
abbrev pub LearntTickIsOpen : Type 0
LearntTickIsOpen = (made old new : Meaning) (by worker region : ℕ) (tick : Tick) → IsTick (world_of made) (length made.history) 0 region tick
    → Allowed (world_of made) (Begin worker region) → IsUntouched made old region → Learns old new by worker region
    → IsOpen new (record tick { worker = worker })

-- an entry that does not touch a region, and is no Stop, leaves it untouched
abbrev pub OnlyATouchIsOne : Type 0
OnlyATouchIsOne = (old new : Meaning) (by r : ℕ) (event : Event) → Records old new by event → touches (world_of old) r event ≡ false
    → is_stop event ≡ false → KeepsUntouched old new r

-- an entry that is no End of its region leaves a tick open
abbrev pub OnlyItsEndClosesATick : Type 0
OnlyItsEndClosesATick = (old new : Meaning) (by : ℕ) (event : Event) (tick : Tick) → Records old new by event → is_end tick.region event ≡ false → IsOpen old tick
    → IsOpen new tick

-- in a run, an open tick is one that may be run
abbrev pub OpenTickMayRun : Type 0
OpenTickMayRun = (m : Meaning) (tick : Tick) → IsGrid m.opening.grid → Run m.opening m.history → IsOpen m tick → MayRun tick

-- when all of its tasks have run, whatever its host answered, it is one that may be given back
abbrev pub FinishedTickIsOut : Type 0
FinishedTickIsOut = (m : Meaning) (tick finished : Tick) (calls : List HostCall) → IsOpen m tick → Finishes tick finished calls → IsOut m finished
