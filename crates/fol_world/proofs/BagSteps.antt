-- How bags change one after another.
use Rattle.std.proofs.Common.{◌≡◌, ℕ, refl, ◌∙◌, ap, true, inl, inr, List, [], ◌∷◌}
use Rattle.std.specs.Prelude.{nat_eq}
use Rattle.std.specs.List.{AllByRecursion}
use Rattle.std.proofs.lemmas.Bool.{cases_Bool, eqb-true}
use Rattle.fol_model.specs.ActionStep.{at_id}
use Rattle.fol_store.specs.Bag.{Bag}

-- another owed number leaves where the bags are
pub owing_here : (f : ℕ → Bag) (x n r : ℕ) → (at_id f x (record (f x) { owed = n }) r).here ≡ (f r).here
owing_here f x n r = elim (cases_Bool (nat_eq x r)) [
  | inl e ↦ let same : x ≡ r = eqb-true x r e in rw e (ap (λ k. (f k).here) same)
  | inr e ↦ rw e refl
]

pub all_here : (f : ℕ → Bag) (x n : ℕ) (rs : List ℕ) → AllByRecursion (λ r. (f r).here ≡ true) rs → AllByRecursion (λ r. (at_id f x (record (f x) { owed = n }) r).here ≡ true) rs
all_here f x n [] h = tt
all_here f x n (r ∷ rs) h = (owing_here f x n r ∙ h.0, all_here f x n rs h.1)
