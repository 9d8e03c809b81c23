-- What stands behind a list.
use Rattle.std.proofs.Common.{◌≡◌, ℕ, ◌-◌, Bool, not, List, [], ◌∷◌, ◌++◌, length, take, drop, ◌∙◌, ap, refl, inl, inr, arith}
use Rattle.std.specs.List.{filter}
use Rattle.std.proofs.lemmas.Bool.{cases_Bool}
use Rattle.std.proofs.lemmas.List.{take_rest, drop_at}

pub behind : {X : Type 0} (xs ys zs : List X) (n : ℕ) → zs ≡ xs ++ ys → length xs ≡ n → take (length zs - n) (drop n zs) ≡ ys
behind xs ys zs n e l = take_rest zs n ∙ rw e (drop_at xs ys n l)

-- what passes went behind one list, and from there behind another
pub passed_on : {X : Type 0} (p : X → Bool) (rows into copied left joined : List X) (n m : ℕ) → copied ≡ into ++ filter p rows → length into ≡ n → joined ≡ left ++ take (length copied - n) (drop n copied) → length left ≡ m
    → take (length joined - m) (drop m joined) ≡ filter p rows
passed_on p rows into copied left joined n m e l f k = behind left _ joined m f k ∙ behind into (filter p rows) copied n e l

-- where nothing passes, all is left
pub none_passed : {X : Type 0} (p : X → Bool) (rows : List X) → length (filter p rows) ≡ 0 → rows ≡ filter (λ r. not (p r)) rows
none_passed p [] h = refl
none_passed p (x ∷ rows) h =
    elim (cases_Bool (p x)) [
      | inl t ↦ let some : length (x ∷ filter p rows) ≡ 0 = rw t at h in absurd (omega arith)
      | inr t ↦ let rest : length (filter p rows) ≡ 0 = rw t at h in rw t (ap (λ ys. x ∷ ys) (none_passed p rows rest))
    ]
