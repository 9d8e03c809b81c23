-- The invariant of every run: grid, tickets and tasks fit each other.
use Rattle.std.proofs.Common.{inl, inr}
use Rattle.std.proofs.lemmas.Bool.{cases_lt}
use Rattle.std.specs.Prelude.{◌<◌, ℕ, ◌≡◌, ◌+◌, ◌≤◌, Option, Some, None}
use Rattle.fol_model.specs.declared.places.ChunkPos.{ChunkPos}
use Rattle.fol_model.specs.Counting.{count_below}
use Rattle.fol_model.specs.GridNumbers.{IsGrid}
use Rattle.fol_model.specs.GridState.{GridState}
use Rattle.fol_model.specs.Job.{Job, is_on}
use Rattle.fol_model.specs.Rules.{Rules}
use Rattle.fol_model.specs.World.{World}
use Rattle.fol_laws.specs.Tasks.{JobOk}

-- over the fields that it speaks of, so that a change of another field of the world leaves it as it stands
pub record Sound (g : GridState) (tickets : ChunkPos → ℕ) (jobs : ℕ → Option Job) (next : ℕ) : Type 0 where
  pub rules : Rules g
  pub grid : IsGrid g.grid
  pub each : (n : ℕ) (j : Job) → jobs n ≡ Some j → JobOk g j
  pub holds : (c : ChunkPos) → g.holds c ≡ tickets c + count_below (λ n. is_on c (jobs n)) next
  pub numbers : (n : ℕ) → next ≤ n → jobs n ≡ None

abbrev pub SoundWorld : World → Type 0
SoundWorld w = Sound w.grid w.tickets w.jobs w.next_job

-- each task has a number below the next
pub job_below : (n : ℕ) (w : World) (j : Job) → SoundWorld w → w.jobs n ≡ Some j → n < w.next_job
job_below n w j s e = elim (cases_lt n w.next_job) [ inl l ↦ l | inr l ↦ let x = s.numbers n l in absurd (cc) ]
