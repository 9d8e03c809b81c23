-- A tick that was run on the world at its Begin, given back at its End.
use Rattle.std.specs.Prelude.{ℕ, ◌≡◌, not, List}
use Rattle.fol_model.specs.declared.regions.State.TheVariants.{Ticking}
use Rattle.fol_model.specs.declared.tasks.Outcome.{Outcome}
use Rattle.fol_model.specs.declared.tasks.Ran.{Ran}
use Rattle.fol_model.specs.ActionStep.{Flat, Recorded}
use Rattle.fol_model.specs.FlatTick.{FlatEnd, flat_tick}
use Rattle.fol_model.specs.World.{World, due}
use Rattle.fol_model.specs.End.{ticked, run_down, ended}
use Rattle.fol_laws.specs.Contents.{SameOn}
use Rattle.fol_laws.specs.Ownership.{WhileTicking}
use Rattle.fol_laws.specs.Points.{AtEveryPoint}

-- the whole tick `run` is what the tick of r comes to in the world w, told these outcomes: outcomes, wishes, and what is in the recorded chunks
pub record IsEndIn (w : World) (r : ℕ) (rec : Recorded) (run : FlatEnd) : Type 0 where
  pub ran : (ticked w r run.ran).ran ≡ run.ran
  pub wishes : (ticked w r run.ran).wishes ≡ run.wishes
  pub flat : SameOn rec run.flat (ticked w r run.ran).flat

-- a tick that ran on the contents of the recorded chunks as they were at the Begin
abbrev pub EndsAsRun : ℕ → World → World → Type 0
EndsAsRun r v w = (given : ℕ → Outcome) (f : Flat) → SameOn (v.recorded r) f v.flat → IsEndIn w r (v.recorded r) (flat_tick (v.recorded r) given (due v r) f)

-- whatever events come between its Begin and its End
abbrev pub FinishedTickIsTheEnd : Type 0
FinishedTickIsTheEnd = WhileTicking EndsAsRun

-- an End changes no block and no entity outside the chunks that its tick recorded
abbrev pub EndKeepsTheRest : Type 0
EndKeepsTheRest = AtEveryPoint (λ o w. (r : ℕ) (ran : List Ran) → w.grid.state r ≡ Ticking → SameOn (λ c. not (w.recorded r c)) w.flat (ended w r ran).flat)

-- the tasks that ran, and the movement, change no block and no entity outside the chunks that the tick recorded
abbrev pub TasksKeepTheRest : Type 0
TasksKeepTheRest = AtEveryPoint (λ o w. (r : ℕ) (ran : List Ran) → w.grid.state r ≡ Ticking → SameOn (λ c. not (w.recorded r c)) w.flat (run_down w r ran).flat)
