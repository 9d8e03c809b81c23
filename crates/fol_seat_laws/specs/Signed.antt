-- Whose an entry is: the seat that recorded it, and the caller or worker that its event names.
use Rattle.std.specs.Prelude.{ℕ, ◌≡◌, ◌≤◌, Bool, true, false, not, List, filter}
use Rattle.fol_model.specs.declared.events.Event.{Event}
use Rattle.fol_model.specs.declared.events.Event.TheVariants.{Load, Unload, Post, PhaseOpen, Begin, End, PhaseClose, Finish, Stop}
use Rattle.fol_model.specs.declared.events.Entry.{Entry}
use Rattle.fol_model.specs.Legal.{worker_of}
use Rattle.fol_lock.specs.Log.{given_by}

-- the event opens or closes a phase, or finishes
abbrev pub is_phase : Event → Bool
is_phase (PhaseOpen n) = true
is_phase PhaseClose = true
is_phase Finish = true
is_phase _ = false

-- the event begins a tick
abbrev pub is_start : Event → Bool
is_start (Begin worker r) = true
is_start _ = false

abbrev pub is_stop : Event → Bool
is_stop (Stop caller) = true
is_stop _ = false

-- the event is for whom it names to record: a caller's, or the End of a worker. Whoever learns of a Begin may record it
abbrev pub is_named : Event → Bool
is_named (Load caller c answer) = true
is_named (Unload caller c answer) = true
is_named (Post caller c d action answer) = true
is_named (End worker r tick ran accepts) = true
is_named (Stop caller) = true
is_named _ = false

-- what is for one to record is recorded by the seat of that number
abbrev pub IsSigned : Entry → Type 0
IsSigned e = is_named e.event ≡ true → worker_of e.event ≡ e.by

-- a Begin is of one of w workers, from 1 on
pub record BegunBelow (w : ℕ) (e : Entry) : Type 0 where
  pub some : 1 ≤ worker_of e.event
  pub low : worker_of e.event ≤ w

abbrev pub IsBegunBelow : ℕ → Entry → Type 0
IsBegunBelow w e = is_start e.event ≡ true → BegunBelow w e

-- an event that only a caller records, or anybody, and no worker
abbrev pub is_call : Event → Bool
is_call (End worker r tick ran accepts) = false
is_call (Stop caller) = false
is_call _ = true

-- the entries that the seat k recorded
abbrev pub own_of : ℕ → List Entry → List Entry
own_of k es = given_by (λ (e : Entry). e.by) k es

-- those of them that are no Begin
abbrev pub deeds_of : ℕ → List Entry → List Entry
deeds_of k es = filter (λ (e : Entry). not (is_start e.event)) (own_of k es)
