-- Facts on counts.
use Rattle.std.proofs.Common.{◌≡◌, ◌+◌, ◌≤◌, ◌<◌, refl, sym, arith, Bool, true, false, cond, List, [], ◌∷◌, ◌||◌}
use Rattle.std.specs.List.{count_by, list_any}
use Rattle.std.proofs.lemmas.List.Sums.{sum_by-cons}
use Rattle.std.proofs.lemmas.Bool.{cases_Bool, or_cases, true≢false}
use Rattle.std.proofs.Common.{inl, inr}

module _ {X : Type 0} where
  pub count_by-cons : (p : X → Bool) (x : X) (xs : List X) → count_by p (x ∷ xs) ≡ cond (p x) 1 0 + count_by p xs
  count_by-cons p x xs = sum_by-cons (λ x. cond (p x) 1 0) x xs

  pub count_by-mono : (p q : X → Bool) (h : (x : X) → p x ≡ true → q x ≡ true) (xs : List X) → count_by p xs ≤ count_by q xs
  count_by-mono p q h [] = omega arith
  count_by-mono p q h (x ∷ xs) = grind (arith, count_by-cons p x xs, count_by-cons q x xs, count_by-mono p q h xs, h x)

  pub count_by-or : (p q r : X → Bool) (h : (x : X) → p x ≡ true → (q x || r x) ≡ true) (xs : List X) → count_by p xs ≤ count_by q xs + count_by r xs
  count_by-or p q r h [] = omega arith
  count_by-or p q r h (x ∷ xs) = grind (arith, count_by-cons p x xs, count_by-cons q x xs, count_by-cons r x xs, count_by-or p q r h xs, h x)

  pub count_by-none : (p : X → Bool) (h : (x : X) → p x ≡ false) (xs : List X) → count_by p xs ≡ 0
  count_by-none p h [] = refl
  count_by-none p h (x ∷ xs) = grind (arith, count_by-cons p x xs, count_by-none p h xs, h x)

  pub list_any-gives : (p : X → Bool) (xs : List X) → list_any p xs ≡ true → (x : X) × (p x ≡ true)
  list_any-gives p [] h = absurd (true≢false (sym h))
  list_any-gives p (x ∷ xs) h = elim (or_cases (p x) _ h) [ inl e ↦ (x, e) | inr e ↦ list_any-gives p xs e ]

  pub count_by-some : (p : X → Bool) (xs : List X) → 0 < count_by p xs → (x : X) × (p x ≡ true)
  count_by-some p [] h = absurd (omega arith)
  count_by-some p (x ∷ xs) h = elim (cases_Bool (p x)) [ inl e ↦ (x, e) | inr e ↦ count_by-some p xs (grind (arith, count_by-cons p x xs)) ]

  pub list_any-count : (p : X → Bool) (xs : List X) → list_any p xs ≡ true → 0 < count_by p xs
  list_any-count p [] h = absurd (true≢false (sym h))
  list_any-count p (x ∷ xs) h = elim (or_cases (p x) _ h) [ inl e ↦ grind (arith, count_by-cons p x xs) | inr e ↦ omega (arith, count_by-cons p x xs, list_any-count p xs e) ]
