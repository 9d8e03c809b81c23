-- What a replay keeps.
use Rattle.std.specs.Prelude.{ℕ, ◌≡◌, ◌≢◌, ◌<◌, ◌≤◌, ◌++◌, ◌∷◌, [], true, false, Bool, suc, List, length, take, map, IsTrue, Option, Some, None, slice_get, vec_len}
use Rattle.std.specs.List.{list_all}
use Rattle.std.proofs.Common.{get_or}
use Rattle.fol_model.specs.GridNumbers.{IsGrid}
use Rattle.fol_model.specs.Run.{Run}
use Rattle.fol_model.specs.Legal.{is_of, order, orders}
use Rattle.fol_model.specs.SoFar.{SoFar}
use Rattle.fol_model.specs.declared.openings.Opening.{Opening}
use Rattle.fol_model.specs.declared.scripts.Command.{Command}
use Rattle.fol_model.specs.declared.events.Entry.{Entry}
use Rattle.fol_model.specs.declared.events.Accept.{Accept}
use Rattle.fol_model.specs.declared.events.Event.{Event}
use Rattle.fol_model.specs.declared.events.Event.TheVariants.{End}
use Rattle.fol_model.specs.declared.tasks.Ran.{Ran}
use Rattle.fol_tick.specs.declared.list_host.HostAnswer.{HostAnswer}
use Rattle.fol_core.specs.Ahead.{NonePrepared}
use Rattle.fol_core.specs.Meaning.{world_of}
use Rattle.fol_check.specs.Asked.{IsAt}
use Rattle.fol_check.specs.Next.{IsNext, entry_of}
use Rattle.fol_check.specs.declared.asks.Ask.{Ask}
use Rattle.fol_check.specs.declared.asks.Open.{Open}
use Rattle.fol_check.specs.declared.replay.Replay.{Replay}

-- the history of the core is the beginning of one of the script, and the replay says how far the script and each worker have come in it; no
-- region is prepared
pub record Stands (s : Replay) : Type 0 where
  pub grid : IsGrid s.core.opening.grid
  pub run : Run s.core.opening s.core.history
  pub unprepared : NonePrepared s.core
  pub next : s.next ≤ length s.script
  pub commands : orders s.core.history ≡ take s.next (map order s.script)
  pub callers : IsTrue (list_all (λ (e : Entry). is_of 64 e.event) s.core.history)
  pub done : (world_of s.core).finished ≡ true → s.next ≡ length s.script
  pub count : vec_len s.workers ≡ 64
  pub workers : (k : ℕ) → k < 64 → IsAt s.core (suc k) (get_or s.workers.items k None)

-- it stands for no event
pub record Starts (s : Replay) (o : Opening) (commands : List Command) : Type 0 where
  pub stands : Stands s
  pub opening : s.core.opening ≡ o
  pub script : s.script ≡ commands
  pub none : s.core.history ≡ []

-- the replay went on by this event
pub record Records (old new : Replay) (e : Event) : Type 0 where
  pub stands : Stands new
  pub opening : new.core.opening ≡ old.core.opening
  pub script : new.script ≡ old.script
  pub history : new.core.history ≡ old.core.history ++ entry_of e ∷ []

-- it went on, or the event may not come next
abbrev pub Goes : Replay → Replay → Event → Bool → Type 0
Goes old new e true = Records old new e
Goes old new e false = IsNext old e → ⊥

-- it went on, or the history with this event is the beginning of none of the script
abbrev pub Went : Replay → Replay → Event → Bool → Type 0
Went old new e true = Records old new e
Went old new e false = SoFar old.core.opening old.script 64 (old.core.history ++ entry_of e ∷ []) → ⊥

-- the worker has a tick whose next ask is this one
pub record HasAsked (s : Replay) (worker : ℕ) (ask : Ask) : Type 0 where
  pub within : worker ≤ 64
  pub place : ℕ
  pub own : worker ≡ suc place
  pub held : Open
  pub at : get_or s.workers.items place None ≡ Some held
  pub asked : slice_get held.asks.items (length held.answers.items) ≡ Some ask

-- the tick got one answer more, where there is one
abbrev pub Noted : HostAnswer → Option Open → Option Open → Type 0
Noted h None None = Unit {0}
Noted h (Some p) (Some q) = (q.tick ≡ p.tick) × (q.asks ≡ p.asks) × (q.answers.items ≡ p.answers.items ++ h ∷ [])
Noted h None (Some q) = ⊥
Noted h (Some p) None = ⊥

-- so did the tick of this worker alone
pub record Notes (old new : Replay) (worker : ℕ) (answer : HostAnswer) : Type 0 where
  pub core : new.core ≡ old.core
  pub script : new.script ≡ old.script
  pub next : new.next ≡ old.next
  pub count : vec_len new.workers ≡ vec_len old.workers
  pub own : (k : ℕ) → suc k ≡ worker → Noted answer (get_or old.workers.items k None) (get_or new.workers.items k None)
  pub others : (k : ℕ) → suc k ≢ worker → get_or new.workers.items k None ≡ get_or old.workers.items k None

-- the event is an End with this counter, these outcomes and these answers
abbrev pub EndsWith : Event → ℕ → List Ran → List Accept → Type 0
EndsWith (End worker r t xs ks) tick ran accepts = (t ≡ tick) × (xs ≡ ran) × (ks ≡ accepts)
EndsWith _ tick ran accepts = ⊥
