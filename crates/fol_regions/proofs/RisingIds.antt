-- The place of an id in a rising list.
use Rattle.std.proofs.Common.{◌≡◌, ℕ, suc, ◌<◌, ◌≤◌, refl, sym, ◌∙◌, ap, arith, true, false, cond, ◌||◌, List, [], ◌∷◌, ◌++◌, take, drop, inl, inr}
use Rattle.std.specs.Prelude.{nat_eq, nat_lt}
use Rattle.std.specs.Cmp.{ranks}
use Rattle.std.specs.List.{AllByRecursion, count_by, filter, insert, list_any}
use Rattle.std.specs.List.Sorted.{IsStrictlyIncreasing, IsStrictlySortedBy}
use Rattle.std.specs.Ordering.{nat_cmp}
use Rattle.std.specs.declared.cmp.Ordering.TheVariants.{Less}
use Rattle.std.proofs.lemmas.Bool.{cases_Bool, true≢false, le-ltb, lt-ltb, ltb-true, ltb-false, eqb-false}
use Rattle.std.proofs.lemmas.Map.Keys.{IsStrictlyIncreasing-from_sorted, sorted_from_strictly_increasing}
use Rattle.fol_laws.proofs.ListCounts.{count_by-cons}
use Rattle.fol_region_tables.specs.Links.{with_id}
use Rattle.fol_region_tables.proofs.Chosen.{rising_with}

module _ (id : ℕ) where
  -- what is behind an id that is not below this one is above it
  all_above : (x : ℕ) → id ≤ x → (xs : List ℕ) → AllByRecursion (λ y. nat_cmp x y ≡ Less) xs
      → (filter (λ k. nat_lt k id) xs ≡ []) × (filter (λ k. nat_lt id k) xs ≡ xs) × (count_by (λ k. nat_lt k id) xs ≡ 0)
  all_above x l [] h = (refl, refl, refl)
  all_above x l (y ∷ ys) h =
      let less = h.0 in
      let is = rw less at (ranks x y) in
      let rest = all_above x l ys h.1 in
      let low : nat_lt y id ≡ false = le-ltb y id (omega (arith, is)) in
      let high : nat_lt id y ≡ true = lt-ltb id y (omega (arith, is)) in (
        ap (λ b. cond b (y ∷ filter (λ k. nat_lt k id) ys) (filter (λ k. nat_lt k id) ys)) low ∙ rest.0,
        ap (λ b. cond b (y ∷ filter (λ k. nat_lt id k) ys) (filter (λ k. nat_lt id k) ys)) high ∙ ap (λ zs. y ∷ zs) rest.1,
        omega (arith, count_by-cons (λ k. nat_lt k id) y ys, ap (λ b. cond {A = ℕ} b 1 0) low, rest.2),
      )

  -- as many as are below an id stand before its place
  sides : (xs : List ℕ) → IsStrictlySortedBy nat_cmp xs → list_any (nat_eq id) xs ≡ false
      → (take (count_by (λ k. nat_lt k id) xs) xs ≡ filter (λ k. nat_lt k id) xs) × (drop (count_by (λ k. nat_lt k id) xs) xs ≡ filter (λ k. nat_lt id k) xs)
  unfolding IsStrictlySortedBy
  sides [] h none = (refl, refl)
  sides (x ∷ xs) h none =
      let low = λ (k : ℕ). nat_lt k id in
      let high = λ (k : ℕ). nat_lt id k in
      let other : nat_eq id x ≡ false = elim (cases_Bool (nat_eq id x)) [
        | inl e ↦ absurd (true≢false (sym (ap (λ b. b || list_any (nat_eq id) xs) e) ∙ none))
        | inr e ↦ e
      ] in
      elim (cases_Bool (nat_lt x id)) [
        | inl e ↦
            let rest = sides xs h.1 (sym (ap (λ b. b || list_any (nat_eq id) xs) other) ∙ none) in
            let n : count_by low (x ∷ xs) ≡ suc (count_by low xs) = omega (arith, count_by-cons low x xs, ap (λ b. cond {A = ℕ} b 1 0) e) in
            let f : nat_lt id x ≡ false = le-ltb id x (omega (arith, ltb-true x id e)) in (
              ap (λ k. take k (x ∷ xs)) n ∙ ap (λ ys. x ∷ ys) rest.0 ∙ sym (ap (λ b. cond b (x ∷ filter low xs) (filter low xs)) e),
              ap (λ k. drop k (x ∷ xs)) n ∙ rest.1 ∙ sym (ap (λ b. cond b (x ∷ filter high xs) (filter high xs)) f),
            )
        | inr e ↦
            let l : id < x = omega (arith, ltb-false x id e, eqb-false id x other) in
            let rest = all_above x (omega arith) xs h.0 in
            let n : count_by low (x ∷ xs) ≡ 0 = omega (arith, count_by-cons low x xs, ap (λ b. cond {A = ℕ} b 1 0) e, rest.2) in
            let f : nat_lt id x ≡ true = lt-ltb id x l in (
              ap (λ k. take k (x ∷ xs)) n ∙ sym rest.0 ∙ sym (ap (λ b. cond b (x ∷ filter low xs) (filter low xs)) e),
              ap (λ k. drop k (x ∷ xs)) n ∙ ap (λ ys. x ∷ ys) (sym rest.1) ∙ sym (ap (λ b. cond b (x ∷ filter high xs) (filter high xs)) f),
            )
      ]

  module _ (xs : List ℕ) (rising : IsStrictlyIncreasing xs) where
    -- an id that is put in its place
    pub insert_in_place : list_any (nat_eq id) xs ≡ false → insert xs (count_by (λ k. nat_lt k id) xs) id ≡ with_id id xs
    insert_in_place none =
        let s = sides xs (sorted_from_strictly_increasing xs rising) none in
        λ i. s.0 i ++ id ∷ s.1 i

    pub rising_more : IsStrictlyIncreasing (with_id id xs)
    rising_more = IsStrictlyIncreasing-from_sorted (with_id id xs) (rising_with id xs (sorted_from_strictly_increasing xs rising))
