-- A store whose one task lies on one chunk has none on another.
use Rattle.std.proofs.Common.{◌≡◌, ◌≢◌, ℕ, refl, sym, ◌∙◌, ap, false, inl, inr, Option, Some, None}
use Rattle.std.specs.Prelude.{nat_eq}
use Rattle.std.proofs.lemmas.Bool.{cases_Bool}
use Rattle.fol_model.specs.declared.places.ChunkPos.{ChunkPos}
use Rattle.fol_model.specs.ActionStep.{at_id}
use Rattle.fol_model.specs.Geometry.{same_chunk}
use Rattle.fol_model.specs.Job.{Job, is_on}
use Rattle.fol_model.proofs.PlaceKeys.{same_chunk-true}

pub only_there : (jobs : ℕ → Option Job) (n : ℕ) (j : Job) (only : ChunkPos) → jobs ≡ at_id (λ k. None) n (Some j) → j.chunk ≡ only → (c : ChunkPos) → c ≢ only → (k : ℕ) → is_on c (jobs k) ≡ false
only_there jobs n j only is there c other k = ap (λ (f : ℕ → Option Job). is_on c (f k)) is ∙ elim (cases_Bool (nat_eq n k)) [
  | inl e ↦ rw e (elim (cases_Bool (same_chunk j.chunk c)) [
    | inl same ↦ absurd (other (sym (same_chunk-true j.chunk c same) ∙ there))
    | inr off ↦ off
  ])
  | inr e ↦ rw e refl
]
