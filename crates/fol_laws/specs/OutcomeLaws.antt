-- The outcomes that an End lists, given back to its tick.
use Rattle.std.specs.Prelude.{ℕ, ◌≡◌, List}
use Rattle.fol_model.specs.declared.tasks.Outcome.{Outcome}
use Rattle.fol_model.specs.declared.tasks.Task.{Task}
use Rattle.fol_model.specs.ActionStep.{Flat, Recorded}
use Rattle.fol_model.specs.FlatTick.{flat_tick, Rising}
use Rattle.fol_model.specs.World.{World, due}
use Rattle.fol_model.specs.End.{outcome_in}

-- each due task has a number above the ones before it
abbrev pub DueTasksRise : Type 0
DueTasksRise = (w : World) (r : ℕ) → Rising (due w r)

-- a tick whose loads and unloads are told what the tick listed for them is the same tick
abbrev pub OutcomesGiveTheTickAgain : Type 0
OutcomesGiveTheTickAgain = (rec : Recorded) (given : ℕ → Outcome) (f : Flat) (ts : List Task) → Rising ts
    → flat_tick rec (outcome_in (flat_tick rec given ts f).ran) ts f ≡ flat_tick rec given ts f
