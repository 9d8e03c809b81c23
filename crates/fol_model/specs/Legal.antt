-- Which histories are those of a script that w workers ran.
use Rattle.std.specs.Prelude.{ℕ, ◌≡◌, ◌≤◌, Bool, true, false, ◌&&◌, nat_eq, nat_le, if◌then◌else◌, List, [], ◌∷◌, ◌++◌, map, flat_map, filter, IsTrue}
use Rattle.std.specs.List.{list_any, list_all}
use Rattle.fol_model.specs.declared.places.ChunkPos.{ChunkPos}
use Rattle.fol_model.specs.Nesting.{deed_of}
use Rattle.fol_model.specs.ActionStep.{plain_of}
use Rattle.fol_model.specs.World.{World, start, due}
use Rattle.fol_model.specs.QueuedTask.{begun}
use Rattle.fol_model.specs.Run.{Run, after}
use Rattle.fol_model.specs.declared.actions.Action.{Action}
use Rattle.fol_model.specs.declared.actions.Action.TheVariants as action
use Rattle.fol_model.specs.declared.scripts.Command.{Command}
use Rattle.fol_model.specs.declared.scripts.Command.TheVariants as command
use Rattle.fol_model.specs.declared.openings.Opening.{Opening}
use Rattle.fol_model.specs.declared.events.Loaded.{Loaded}
use Rattle.fol_model.specs.declared.events.Loaded.TheVariants as load
use Rattle.fol_model.specs.declared.events.Unloaded.{Unloaded}
use Rattle.fol_model.specs.declared.events.Unloaded.TheVariants as unload
use Rattle.fol_model.specs.declared.tasks.Outcome.{Outcome}
use Rattle.fol_model.specs.declared.tasks.Outcome.TheVariants as outcome
use Rattle.fol_model.specs.declared.tasks.Task.{Task}
use Rattle.fol_model.specs.declared.tasks.Ran.{Ran}
use Rattle.fol_model.specs.declared.events.Event.{Event}
use Rattle.fol_model.specs.declared.events.Event.TheVariants.{Load, Unload, Post, PhaseOpen, Begin, End, PhaseClose, Finish, Stop}
use Rattle.fol_model.specs.declared.events.Entry.{Entry}

-- what a line of a script asks for
pub data Order : Type 0 where
  load_chunk : ChunkPos → Order
  unload_chunk : ChunkPos → Order
  post_task : ChunkPos → ℕ → Action → Order
  open_phase : ℕ → Order
  close_phase : Order

abbrev pub order : Command → Order
order (command.Load c) = load_chunk c
order (command.Unload c) = unload_chunk c
order (command.Post c d a) = post_task c d a
order (command.Every c d p count a) = post_task c d (action.Every p count (deed_of a))
order (command.Run n) = open_phase n
order command.End = close_phase

-- the order that caller 0 carries out by an event
abbrev pub orders_of : Event → List Order
orders_of (Load caller c answer) = if nat_eq caller 0 then load_chunk c ∷ [] else []
orders_of (Unload caller c answer) = if nat_eq caller 0 then unload_chunk c ∷ [] else []
orders_of (Post caller c d a answer) = if nat_eq caller 0 then post_task c d a ∷ [] else []
orders_of (PhaseOpen n) = open_phase n ∷ []
orders_of PhaseClose = close_phase ∷ []
orders_of _ = []

abbrev pub orders : List Entry → List Order
orders es = flat_map (λ e. orders_of e.event) es

-- the worker of an event, and 0 where it is of none
abbrev pub worker_of : Event → ℕ
worker_of (Load caller c answer) = caller
worker_of (Unload caller c answer) = caller
worker_of (Post caller c d a answer) = caller
worker_of (Begin worker r) = worker
worker_of (End worker r tick ran accepts) = worker
worker_of (Stop caller) = caller
worker_of _ = 0

-- a Begin and an End are of a worker from 1 to w, a Load or Unload of one or of caller 0, and there is no Stop
abbrev pub is_of : ℕ → Event → Bool
is_of w (Begin worker r) = nat_le 1 worker && nat_le worker w
is_of w (End worker r tick ran accepts) = nat_le 1 worker && nat_le worker w
is_of w (Stop caller) = false
is_of w e = nat_le (worker_of e) w

-- what a worker is at: nothing, or the tick of a region, with the tasks that have still to ask for a Load or an Unload and the outcomes of those that did
pub data Doing : Type 0 where
  idle : Doing
  ticking : ℕ → List Task → List Ran → Doing

abbrev pub asks : Action → Bool
asks (action.Load c) = true
asks (action.Unload c) = true
asks _ = false

abbrev pub asking : List Task → List Task
asking ts = filter (λ t. asks (plain_of t.action)) ts

abbrev pub load_outcome : Loaded → Outcome
load_outcome (load.Full present wanted) = outcome.Full
load_outcome _ = outcome.Done

abbrev pub unload_outcome : Unloaded → Outcome
unload_outcome unload.NoTicket = outcome.NoTicket
unload_outcome _ = outcome.Done

-- what the worker of an event is at after it
abbrev pub turn : World → Doing → Event → Doing
turn w d (Begin k r) = ticking r (asking (due (begun w k r) r)) []
turn w (ticking r (t ∷ ts) told) (Load k c answer) = ticking r ts (told ++ (record { number = t.number; outcome = load_outcome answer }) ∷ [])
turn w (ticking r (t ∷ ts) told) (Unload k c answer) = ticking r ts (told ++ (record { number = t.number; outcome = unload_outcome answer }) ∷ [])
turn w d e = idle

-- where an event of a worker is its turn: a tick is its Begin, one Load or Unload for each task that asks for it, in order, and its End, with those outcomes
abbrev pub IsTurn : Doing → Event → Type 0
IsTurn idle (Begin k r) = Unit {0}
IsTurn (ticking r (t ∷ ts) told) (Load k c answer) = plain_of t.action ≡ action.Load c
IsTurn (ticking r (t ∷ ts) told) (Unload k c answer) = plain_of t.action ≡ action.Unload c
IsTurn (ticking r [] told) (End k q tick ran accepts) = (q ≡ r) × (filter (λ x. list_any (λ y. nat_eq y.number x.number) told) ran ≡ told)
IsTurn d e = ⊥

-- the entries of worker k are whole ticks
abbrev pub WholeTicks : ℕ → World → Doing → List Entry → Type 0
WholeTicks k w d [] = d ≡ idle
WholeTicks k w d (e ∷ es) =
    (IsTrue (nat_eq (worker_of e.event) k) → IsTurn d e.event)
    × WholeTicks k (after w e.event) (if nat_eq (worker_of e.event) k then turn w d e.event else d) es

-- the history is a run of the opening; what caller 0 did are the commands of the script, one for one; every other entry is of a worker from 1 to w,
-- whose entries are whole ticks; and Finish is the last entry
pub record Legal (o : Opening) (script : List Command) (w : ℕ) (es : List Entry) : Type 0 where
  pub run : Run o es
  pub commands : orders es ≡ map order script
  pub workers : IsTrue (list_all (λ e. is_of w e.event) es)
  pub ticks : (k : ℕ) → 1 ≤ k → k ≤ w → WholeTicks k (start o) idle es
  -- Finish is the last entry
  pub others : List Entry
  pub by : ℕ
  pub finish : es ≡ others ++ (record { by = by; event = Finish }) ∷ []
