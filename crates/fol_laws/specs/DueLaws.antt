-- The due rule of each accepted task.
use Rattle.std.specs.Prelude.{ℕ, ◌≡◌, ◌+◌, List, ◌∷◌, ◌++◌}
use Rattle.fol_model.specs.declared.places.ChunkPos.{ChunkPos}
use Rattle.fol_model.specs.declared.actions.Action.{Action}
use Rattle.fol_model.specs.declared.events.Entry.{Entry}
use Rattle.fol_model.specs.declared.openings.Opening.{Opening}
use Rattle.fol_model.specs.GridNumbers.{IsGrid}
use Rattle.fol_model.specs.DueRule.{Accepts, DueRule, named, names}
use Rattle.fol_model.specs.Run.{Run, world, after}

-- e, behind es and before rest, accepts task n, on chunk c with delay d and action a
abbrev pub WhereAccepted : (List Entry → List Entry → Opening → Entry → ℕ → ChunkPos → ℕ → Action → Type 0) → Type 0
WhereAccepted P = (o : Opening) (es rest : List Entry) (e : Entry) (n : ℕ) (c : ChunkPos) (d : ℕ) (a : Action) → IsGrid o.grid → Run o (es ++ e ∷ rest)
    → Accepts (world o es) e.event n c d a → P es rest o e n c d a

-- along the entries after its acceptance the due rule holds of it
abbrev pub EachTaskIsDue : Type 0
EachTaskIsDue = WhereAccepted (λ es rest o e n c d a. DueRule (after (world o es) e.event) rest n c d a)

-- no End before names it, nor does the one that accepts it
abbrev pub NoneNamesItBefore : Type 0
NoneNamesItBefore = WhereAccepted (λ es rest o e n c d a. named n es + names n e.event ≡ 0)
