-- The queued tasks of a part.
use Rattle.std.proofs.Common.{◌≡◌, ℕ, Bool, inl, inr, refl, Option, Some, None}
use Rattle.std.specs.Option.{option_map, ForSome}
use Rattle.std.proofs.lemmas.Bool.{cases_Bool}
use Rattle.std.proofs.Math.Path.{fun_ext}
use Rattle.fol_model.specs.declared.places.ChunkPos.{ChunkPos}
use Rattle.fol_model.specs.Job.{Job}
use Rattle.fol_keyed.proofs.Filtered.{still_holds}
use Rattle.fol_queues.specs.declared.dated.Dated.{Dated}
use Rattle.fol_queues.specs.Waiting.{job_of, option_filter}

-- a task passes by its chunk, whether it is seen with its deadline or with its rest
pub parted_rests : (test : ChunkPos → Bool) (tick : ℕ) (o : Option Dated) → option_map (job_of tick) (option_filter (λ (d : Dated). test d.task.chunk) o) ≡ option_filter (λ (j : Job). test j.chunk) (option_map (job_of tick) o)
parted_rests test tick None = refl
parted_rests test tick (Some d) =
    elim (cases_Bool (test d.task.chunk)) [
      | inl e ↦ rw e refl
      | inr e ↦ rw e refl
    ]

-- the queued tasks of a map of tasks with deadlines
abbrev pub with_rests : ℕ → (ℕ → Option Dated) → ℕ → Option Job
with_rests tick tasks n = option_map (job_of tick) (tasks n)

-- what is parted by deadlines is parted by rests
pub all_parted : (test : ChunkPos → Bool) (tick : ℕ) (before after : ℕ → Option Dated) → after ≡ (λ n. option_filter (λ (d : Dated). test d.task.chunk) (before n))
    → with_rests tick after ≡ λ n. option_filter (λ (j : Job). test j.chunk) (option_map (job_of tick) (before n))
all_parted test tick before after e = rw e (fun_ext (λ n. parted_rests test tick (before n)))

-- what holds of each task holds of those that pass
pub all_still_hold : (P : Dated → Type 0) (p : Dated → Bool) (before after : ℕ → Option Dated) → after ≡ (λ n. option_filter p (before n)) → ((n : ℕ) → ForSome (before n) P) → (n : ℕ) → ForSome (after n) P
all_still_hold P p before after e h n = rw e (still_holds P p (before n) (h n))
