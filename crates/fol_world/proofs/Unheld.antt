-- Where a chunk has no hold but its tickets, no task is on it.
use Rattle.std.proofs.Common.{◌≡◌, ℕ, ◌≤◌, refl, sym, ◌∙◌, ap, arith, false, inl, inr, not, ◌&&◌}
use Rattle.std.specs.Prelude.{nat_eq, Option, Some, None}
use Rattle.std.proofs.lemmas.Bool.{cases_Bool, cases_lt, true≢false}
use Rattle.fol_model.specs.declared.places.ChunkPos.{ChunkPos}
use Rattle.fol_model.specs.GridState.{GridState}
use Rattle.fol_model.specs.Job.{Job, is_on}
use Rattle.fol_laws.proofs.CountBelow.{count_some}
use Rattle.fol_laws.proofs.SoundState.{Sound}
use Rattle.fol_bags.specs.Clear.{HasNoTask}
use Rattle.fol_world.specs.Hands.{at_rest, went}

pub none_on : (g : GridState) (tickets : ChunkPos → ℕ) (jobs : ℕ → Option Job) (next : ℕ) → Sound g tickets jobs next → (c : ChunkPos) → g.holds c ≤ tickets c → HasNoTask c jobs
none_on g tickets jobs next s c l n = elim (cases_Bool (is_on c (jobs n))) [
  | inl e ↦ elim (cases_lt n next) [
    | inl b ↦ absurd (omega (arith, s.holds c, l, count_some (λ m. is_on c (jobs m)) n next b e))
    | inr b ↦ absurd (true≢false (sym e ∙ ap (is_on c) (s.numbers n b)))
  ]
  | inr e ↦ e
]

-- nor is one at rest
pub none_rests : (g : GridState) (since : ℕ → ℕ) (n : ℕ) (c : ChunkPos) (o : Option Job) → is_on c o ≡ false → is_on c (at_rest g since n o) ≡ false
none_rests g since n c None e = refl
none_rests g since n c (Some j) e = elim (cases_Bool (nat_eq j.taker 0 && not (went g since j.chunk n))) [ inl a ↦ rw a e | inr a ↦ rw a refl ]
