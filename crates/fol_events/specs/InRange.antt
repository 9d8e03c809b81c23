-- Which events a line may spell: each number in its type, each place within the limits, each post one that may be asked for.
use Rattle.std.specs.Prelude.{◌≡◌, ℕ, ◌<◌, ◌^◌, true, List, length}
use Rattle.std.specs.List.{AllByRecursion}
use Rattle.fol_model.specs.declared.places.ChunkPos.{ChunkPos}
use Rattle.fol_model.specs.declared.actions.Action.{Action}
use Rattle.fol_model.specs.declared.tasks.Ran.{Ran}
use Rattle.fol_model.specs.declared.events.Loaded.{Loaded}
use Rattle.fol_model.specs.declared.events.Loaded.TheVariants as loaded
use Rattle.fol_model.specs.declared.events.Unloaded.{Unloaded}
use Rattle.fol_model.specs.declared.events.Unloaded.TheVariants as unloaded
use Rattle.fol_model.specs.declared.events.Accept.{Accept}
use Rattle.fol_model.specs.declared.events.Accept.TheVariants as accept
use Rattle.fol_model.specs.declared.events.Event.{Event}
use Rattle.fol_model.specs.declared.events.Event.TheVariants.{Load, Unload, Post, PhaseOpen, Begin, End, PhaseClose, Finish, Stop}
use Rattle.fol_model.specs.declared.events.Entry.{Entry}
use Rattle.fol_model.specs.Deed.{Plain, send}
use Rattle.fol_model.specs.Nesting.{deed_of}
use Rattle.fol_model.specs.Geometry.{is_chunk}
use Rattle.fol_model.specs.Limits.{is_delay, is_action, may_post}

-- a number of 32 bits
abbrev pub Is32 : ℕ → Type 0
Is32 n = n < 2 ^ 32

-- a number of 64 bits
abbrev pub Is64 : ℕ → Type 0
Is64 n = n < 2 ^ 64

-- no event holds `Over`
abbrev pub LoadedInRange : Loaded → Type 0
LoadedInRange loaded.Counted = Unit {0}
LoadedInRange (loaded.Full present wanted) = Is32 present × Is32 wanted
LoadedInRange loaded.Over = ⊥

abbrev pub UnloadedInRange : Unloaded → Type 0
UnloadedInRange unloaded.Lowered = Unit {0}
UnloadedInRange unloaded.NoTicket = Unit {0}
UnloadedInRange unloaded.Over = ⊥

abbrev pub AcceptInRange : Accept → Type 0
AcceptInRange (accept.Posted number) = Is64 number
AcceptInRange (accept.Full present wanted) = Is32 present × Is32 wanted

abbrev pub RanInRange : Ran → Type 0
RanInRange r = Is64 r.number

-- the entity of a `send` is any number of its type
abbrev pub PlainInRange : Plain → Type 0
PlainInRange (send entity to) = Is32 entity
PlainInRange _ = Unit {0}

-- what may be asked for
pub record PostInRange (c : ChunkPos) (d : ℕ) (a : Action) : Type 0 where
  pub chunk : is_chunk c ≡ true
  pub delay : is_delay d ≡ true
  pub action : is_action a ≡ true
  pub may_post : may_post a ≡ true
  pub entity : PlainInRange (deed_of a).plain

pub record EndInRange (worker region tick : ℕ) (ran : List Ran) (accepts : List Accept) : Type 0 where
  pub small_worker : Is32 worker
  pub wide_region : Is64 region
  pub wide_tick : Is64 tick
  pub rans : Is64 (length ran)
  pub each_ran : AllByRecursion RanInRange ran
  pub answers : Is64 (length accepts)
  pub each_answer : AllByRecursion AcceptInRange accepts

abbrev pub InRange : Event → Type 0
InRange (Load caller c answer) = Is32 caller × (is_chunk c ≡ true) × LoadedInRange answer
InRange (Unload caller c answer) = Is32 caller × (is_chunk c ≡ true) × UnloadedInRange answer
InRange (Post caller c d a answer) = Is32 caller × PostInRange c d a × AcceptInRange answer
InRange (PhaseOpen n) = Is32 n
InRange (Begin worker region) = Is32 worker × Is64 region
InRange (End worker region tick ran accepts) = EndInRange worker region tick ran accepts
InRange PhaseClose = Unit {0}
InRange Finish = Unit {0}
InRange (Stop caller) = Is32 caller

abbrev pub AllInRange : List Entry → Type 0
AllInRange h = AllByRecursion (λ e. InRange e.event) h
