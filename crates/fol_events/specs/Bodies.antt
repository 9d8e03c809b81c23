-- What follows the first word of an event line.
use Rattle.std.specs.Prelude.{◌≡◌, ℕ, List, ◌∷◌, codes}
use Rattle.fol_model.specs.declared.places.ChunkPos.{ChunkPos}
use Rattle.fol_model.specs.declared.actions.Action.{Action}
use Rattle.fol_model.specs.declared.tasks.Ran.{Ran}
use Rattle.fol_model.specs.declared.events.Loaded.{Loaded}
use Rattle.fol_model.specs.declared.events.Unloaded.{Unloaded}
use Rattle.fol_model.specs.declared.events.Accept.{Accept}
use Rattle.fol_model.specs.declared.events.Event.{Event}
use Rattle.fol_model.specs.declared.events.Event.TheVariants.{Load, Unload, Post, PhaseOpen, Begin, End, PhaseClose, Finish, Stop}
use Rattle.fol_model.specs.LineWords.{Word}
use Rattle.fol_model.specs.ReportWords.{event_words}
use Rattle.fol_events.specs.declared.heads.Head.{Head}
use Rattle.fol_events.specs.declared.heads.Head.TheVariants as heads
use Rattle.fol_events.specs.Heads.{head_spelled}
use Rattle.fol_events.specs.InRange.{InRange}

-- the event is in range, and its line is this first word and these words
abbrev pub IsBody : Head → Event → List Word → Type 0
IsBody head e ws = InRange e × (event_words e ≡ head_spelled head ∷ ws)

-- the words do not follow this first word in the line of an event in range
abbrev pub NoBody : Head → List Word → Type 0
NoBody heads.Load ws = (caller : ℕ) (c : ChunkPos) (a : Loaded) → InRange (Load caller c a) → codes "load" ∷ ws ≡ event_words (Load caller c a) → ⊥
NoBody heads.Unload ws = (caller : ℕ) (c : ChunkPos) (a : Unloaded) → InRange (Unload caller c a) → codes "unload" ∷ ws ≡ event_words (Unload caller c a) → ⊥
NoBody heads.Post ws = (caller : ℕ) (c : ChunkPos) (d : ℕ) (x : Action) (a : Accept) → InRange (Post caller c d x a) → codes "post" ∷ ws ≡ event_words (Post caller c d x a) → ⊥
NoBody heads.Open ws = (n : ℕ) → InRange (PhaseOpen n) → codes "open" ∷ ws ≡ event_words (PhaseOpen n) → ⊥
NoBody heads.Begin ws = (worker region : ℕ) → InRange (Begin worker region) → codes "begin" ∷ ws ≡ event_words (Begin worker region) → ⊥
NoBody heads.End ws = (worker region tick : ℕ) (rs : List Ran) (xs : List Accept) → InRange (End worker region tick rs xs) → codes "end" ∷ ws ≡ event_words (End worker region tick rs xs) → ⊥
NoBody heads.Close ws = codes "close" ∷ ws ≡ event_words PhaseClose → ⊥
NoBody heads.Finish ws = codes "finish" ∷ ws ≡ event_words Finish → ⊥
NoBody heads.Stop ws = (caller : ℕ) → InRange (Stop caller) → codes "stop" ∷ ws ≡ event_words (Stop caller) → ⊥
