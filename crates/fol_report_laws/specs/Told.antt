-- Which events a line of the report tells whole.
use Rattle.std.specs.Prelude.{ℕ, ℤ, nat_abs, ◌<◌, ◌^◌, ◌≡◌, false}
use Rattle.std.specs.List.{AllByRecursion}
use Rattle.fol_model.specs.declared.places.ChunkPos.{ChunkPos}
use Rattle.fol_model.specs.declared.words.Cell.{Cell}
use Rattle.fol_model.specs.declared.words.Cell.TheVariants as cells
use Rattle.fol_model.specs.declared.actions.Action.{Action}
use Rattle.fol_model.specs.declared.tasks.Ran.{Ran}
use Rattle.fol_model.specs.declared.events.Loaded.{Loaded}
use Rattle.fol_model.specs.declared.events.Loaded.TheVariants as loaded
use Rattle.fol_model.specs.declared.events.Accept.{Accept}
use Rattle.fol_model.specs.declared.events.Accept.TheVariants as accept
use Rattle.fol_model.specs.declared.events.Event.{Event}
use Rattle.fol_model.specs.declared.events.Event.TheVariants.{Load, Unload, Post, PhaseOpen, Begin, End, PhaseClose, Finish, Stop}
use Rattle.fol_model.specs.ActionCells.{deed_cells}
use Rattle.fol_model.specs.Nesting.{deed_of}
use Rattle.fol_model.specs.Limits.{is_arrival}

-- a number of at most 64 digits, as each number of the program is; a report has the last 64 digits of a longer one
abbrev pub IsShort : ℕ → Type 0
IsShort n = n < 10 ^ 64

abbrev pub IsNear : ℤ → Type 0
IsNear z = IsShort (nat_abs z)

abbrev pub IsNearChunk : ChunkPos → Type 0
IsNearChunk c = IsNear c.x × IsNear c.z

abbrev pub IsNearCell : Cell → Type 0
IsNearCell (cells.Word key) = Unit {0}
IsNearCell (cells.Number z) = IsNear z

-- each number in the action
abbrev pub IsNearAction : Action → Type 0
IsNearAction a = AllByRecursion IsNearCell (deed_cells (deed_of a))

abbrev pub IsShortLoaded : Loaded → Type 0
IsShortLoaded (loaded.Full present wanted) = IsShort present × IsShort wanted
IsShortLoaded _ = Unit {0}

abbrev pub IsShortAccept : Accept → Type 0
IsShortAccept (accept.Posted number) = IsShort number
IsShortAccept (accept.Full present wanted) = IsShort present × IsShort wanted

abbrev pub IsShortRan : Ran → Type 0
IsShortRan r = IsShort r.number

-- each number in the event has at most 64 digits
abbrev pub IsShortEvent : Event → Type 0
IsShortEvent (Load caller c answer) = IsShort caller × IsNearChunk c × IsShortLoaded answer
IsShortEvent (Unload caller c answer) = IsShort caller × IsNearChunk c
IsShortEvent (Post caller c d a answer) = IsShort caller × IsNearChunk c × IsShort d × IsNearAction a × IsShortAccept answer
IsShortEvent (PhaseOpen n) = IsShort n
IsShortEvent (Begin worker region) = IsShort worker × IsShort region
IsShortEvent (End worker region tick ran accepts) = IsShort worker × IsShort region × IsShort tick × AllByRecursion IsShortRan ran × AllByRecursion IsShortAccept accepts
IsShortEvent PhaseClose = Unit {0}
IsShortEvent Finish = Unit {0}
IsShortEvent (Stop caller) = IsShort caller

-- what it posts is no arrival, whose speed is not printed
abbrev pub PostsNoArrival : Event → Type 0
PostsNoArrival (Post caller c d a answer) = is_arrival (deed_of a).plain ≡ false
PostsNoArrival _ = Unit {0}

abbrev pub IsTold : Event → Type 0
IsTold e = IsShortEvent e × PostsNoArrival e
