-- What holds of each task that is queued or taken.
use Rattle.std.specs.Prelude.{ℕ, ◌≡◌, ◌≢◌, ◌≤◌, Some, None, IsTrue}
use Rattle.fol_model.specs.declared.regions.State.TheVariants.{Ticking}
use Rattle.fol_model.specs.Geometry.{is_chunk}
use Rattle.fol_model.specs.GridState.{GridState}
use Rattle.fol_model.specs.Limits.{is_action, fits}
use Rattle.fol_model.specs.Job.{Job}
use Rattle.fol_model.specs.World.{World}
use Rattle.fol_laws.specs.Points.{AtEveryPoint}

-- a task within its limits: a queued one has a rest of 1 to 1,000,000, and a taken one belongs to a Ticking region
pub record JobOk (g : GridState) (j : Job) : Type 0 where
  pub chunk : IsTrue (is_chunk j.chunk)
  pub action : IsTrue (is_action j.action)
  pub fits : IsTrue (fits j.chunk j.action)
  pub rest_high : j.rest ≤ 1000000
  pub rest_low : j.taker ≡ 0 → 1 ≤ j.rest
  pub takes : j.taker ≢ 0 → g.state j.taker ≡ Ticking

abbrev pub JobsOk : World → Type 0
JobsOk w = (n : ℕ) (j : Job) → w.jobs n ≡ Some j → JobOk w.grid j

-- the numbers that were not given out have no task
abbrev pub NumbersBelowNext : World → Type 0
NumbersBelowNext w = (n : ℕ) → w.next_job ≤ n → w.jobs n ≡ None

abbrev pub EachTaskIsWithinLimits : Type 0
EachTaskIsWithinLimits = AtEveryPoint (λ o. JobsOk)

abbrev pub EachTaskIsBelowNext : Type 0
EachTaskIsBelowNext = AtEveryPoint (λ o. NumbersBelowNext)
