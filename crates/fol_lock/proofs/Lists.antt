-- Lists read by `get_elem?`, where one element changes, and sums over them.
use Rattle.std.proofs.Common.{◌≡◌, ◌≢◌, ◌⊎◌, ℕ, zero, suc, ◌+◌, ◌<◌, ◌≤◌, List, [], ◌∷◌, ◌++◌, length, set, sym, refl, ap, subst, inl, inr, ⊎_elim, arith, ◌∙◌}
use Rattle.std.specs.List.{sum_by}
use Rattle.std.proofs.lemmas.List.Sums.{sum_by-cons}
use mathlib.Core.Option.{some, some-injective, some-ne-none}
use lib.ListN.{get_elem?}
use Rattle.atomic_table.proofs.Lists.{at_set}

module _ {X : Type 0} where
  pub sum_by-changed : (f : X → ℕ) (xs : List X) (i : ℕ) (x y : X) → get_elem? xs i ≡ some x → sum_by f (set xs i y) + f x ≡ sum_by f xs + f y
  sum_by-changed f [] i x y there = absurd (some-ne-none x (sym there))
  sum_by-changed f (z ∷ zs) zero x y there =
      let same : f z ≡ f x = ap f (some-injective z x there) in
      let new = sum_by-cons f y zs in
      let old = sum_by-cons f z zs in
      omega arith
  sum_by-changed f (z ∷ zs) (suc i) x y there =
      let rest = sum_by-changed f zs i x y there in
      let new = sum_by-cons f z (set zs i y) in
      let old = sum_by-cons f z zs in
      omega arith

  pub sum_by-le_sum_by : (f g : X → ℕ) (xs : List X) → ((j : ℕ) (x : X) → get_elem? xs j ≡ some x → f x ≤ g x) → sum_by f xs ≤ sum_by g xs
  sum_by-le_sum_by f g [] each = omega arith
  sum_by-le_sum_by f g (x ∷ xs) each =
      let here = each zero x refl in
      let rest = sum_by-le_sum_by f g xs (λ j y there. each (suc j) y there) in
      let left = sum_by-cons f x xs in
      let right = sum_by-cons g x xs in
      omega arith

  -- an element that was there is now the one that was set
  pub changed_here : (xs : List X) (i : ℕ) (x y : X) → get_elem? xs i ≡ some x → get_elem? (set xs i y) i ≡ some y
  changed_here [] i x y there = absurd (some-ne-none x (sym there))
  changed_here (z ∷ zs) zero x y there = refl
  changed_here (z ∷ zs) (suc i) x y there = changed_here zs i x y there

  pub below_length : (xs : List X) (i : ℕ) (x : X) → get_elem? xs i ≡ some x → i < length xs
  below_length [] i x there = absurd (some-ne-none x (sym there))
  below_length (z ∷ zs) zero x there = omega arith
  below_length (z ∷ zs) (suc i) x there = let rest = below_length zs i x there in omega arith

  -- what stands in a longer list stood there before, or is the last
  pub there_or_last : (xs : List X) (y x : X) (j : ℕ) → get_elem? (xs ++ y ∷ []) j ≡ some x → (get_elem? xs j ≡ some x) ⊎ ((j ≡ length xs) × (y ≡ x))
  there_or_last [] y x zero there = inr (refl, some-injective y x there)
  there_or_last [] y x (suc j) there = absurd (some-ne-none x (sym there))
  there_or_last (z ∷ zs) y x zero there = inl there
  there_or_last (z ∷ zs) y x (suc j) there =
      ⊎_elim (λ (h : get_elem? zs j ≡ some x). inl h) (λ (h : (j ≡ length zs) × (y ≡ x)). let last = h.0 in inr (omega arith, h.1)) (there_or_last zs y x j there)

  pub one_there : (xs : List X) (i : ℕ) (x y : X) → get_elem? xs i ≡ some x → get_elem? xs i ≡ some y → x ≡ y
  one_there xs i x y is_x is_y = some-injective x y (sym is_x ∙ is_y)

  -- a fact on each element stays, where it holds of the one that is set
  pub each_stays : (K : ℕ → X → Type 0) (xs : List X) (i : ℕ) (y : X) → K i y → ((j : ℕ) (x : X) → j ≢ i → get_elem? xs j ≡ some x → K j x)
      → (j : ℕ) (x : X) → get_elem? (set xs i y) j ≡ some x → K j x
  each_stays K xs i y new others j x there = ⊎_elim (λ (t : (j ≡ i) × (y ≡ x)). subst (λ (p : ℕ × X). K p.0 p.1) (λ k. (sym t.0 k, t.1 k)) new)
      (λ (t : (j ≢ i) × (get_elem? xs j ≡ some x)). others j x t.0 t.1) (at_set xs i j y x there)
