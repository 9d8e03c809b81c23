-- What a host was asked for, what it answered, and what the tasks came to by these answers.
use Rattle.std.specs.Prelude.{ℕ, ◌≡◌, Bool, true, false, List, [], ◌∷◌, map, filter, Result, Ok, Err}
use Rattle.std.specs.declared.alloc.AllocError.{AllocError}
use Rattle.fol_model.specs.ActionStep.{plain_of}
use Rattle.fol_model.specs.End.{outcome_in}
use Rattle.fol_model.specs.declared.places.ChunkPos.{ChunkPos}
use Rattle.fol_model.specs.declared.actions.Action.{Action}
use Rattle.fol_model.specs.declared.actions.Action.TheVariants as action
use Rattle.fol_model.specs.declared.events.Loaded.{Loaded}
use Rattle.fol_model.specs.declared.events.Loaded.TheVariants as load
use Rattle.fol_model.specs.declared.events.Unloaded.{Unloaded}
use Rattle.fol_model.specs.declared.events.Unloaded.TheVariants as unload
use Rattle.fol_model.specs.declared.tasks.Outcome.{Outcome}
use Rattle.fol_model.specs.declared.tasks.Outcome.TheVariants.{Done, Full, NoTicket}
use Rattle.fol_model.specs.declared.tasks.Task.{Task}
use Rattle.fol_model.specs.declared.tasks.Ran.{Ran}

-- a call that was answered, with the answer
pub data HostCall : Type 0 where
  loaded : ChunkPos → Loaded → HostCall
  unloaded : ChunkPos → Unloaded → HostCall

-- the call for a load, where it was answered
abbrev pub load_call : ChunkPos → Result Loaded AllocError → List HostCall
load_call c (Ok answer) = loaded c answer ∷ []
load_call c (Err e) = []

-- the call for an unload, where it was answered
abbrev pub unload_call : ChunkPos → Result Unloaded AllocError → List HostCall
unload_call c (Ok answer) = unloaded c answer ∷ []
unload_call c (Err e) = []

-- the action that asks for the call
abbrev pub action_called : HostCall → Action
action_called (loaded c answer) = action.Load c
action_called (unloaded c answer) = action.Unload c

-- what a load comes to
abbrev pub outcome_of_load : Loaded → Outcome
outcome_of_load load.Counted = Done
outcome_of_load (load.Full present wanted) = Full
outcome_of_load load.Over = Done

-- what an unload comes to
abbrev pub outcome_of_unload : Unloaded → Outcome
outcome_of_unload unload.Lowered = Done
outcome_of_unload unload.NoTicket = NoTicket
outcome_of_unload unload.Over = Done

-- what the action that asked for the call comes to
abbrev pub outcome_told : HostCall → Outcome
outcome_told (loaded c answer) = outcome_of_load answer
outcome_told (unloaded c answer) = outcome_of_unload answer

-- the action asks for a call
abbrev pub is_hosted : Action → Bool
is_hosted (action.Load c) = true
is_hosted (action.Unload c) = true
is_hosted _ = false

-- the tasks whose plain action asks for a call
abbrev pub hosted : List Task → List Task
hosted ts = filter (λ t. is_hosted (plain_of t.action)) ts

-- the calls are just those that the tasks ask for, in order
abbrev pub AreCallsOf : List Task → List HostCall → Type 0
AreCallsOf ts calls = map action_called calls ≡ map (λ t. plain_of t.action) (hosted ts)

-- what these tasks came to, each by the call in its place
abbrev pub told : List Task → List HostCall → List Ran
told [] calls = []
told (t ∷ ts) [] = []
told (t ∷ ts) (x ∷ xs) = (record { number = t.number; outcome = outcome_told x }) ∷ told ts xs

-- the outcomes of the tasks that ask for calls, by number
abbrev pub given : List Task → List HostCall → ℕ → Outcome
given ts calls = outcome_in (told (hosted ts) calls)
