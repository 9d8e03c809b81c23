-- Lists that a sort put in order.
use Rattle.std.proofs.Common.{◌≡◌, ℕ, ◌+◌, refl, sym, ◌∙◌, ap, arith, Bool, true, false, cond, inl, inr, List, [], ◌∷◌, ◌++◌, get_or}
use Rattle.std.specs.Prelude.{filter}
use Rattle.std.specs.List.{IsDistinct}
use Rattle.std.specs.List.Sorted.{IsPermutation, IsSortedBy, IsStrictlySortedBy}
use Rattle.std.specs.Ordering.{eq_by_cmp, is_eq, is_lt, ordering_reverse}
use Rattle.std.specs.declared.cmp.Ordering.{Ordering}
use Rattle.std.specs.declared.cmp.Ordering.TheVariants.{Less, Equal, Greater}
use Rattle.std.proofs.lemmas.Bool.{cases_Bool, true≢false}
use Rattle.std.proofs.lemmas.List.Sorted.{IsPermutation-cons, IsPermutation-middle, IsPermutation-refl, IsPermutation-sym, IsPermutation-trans, list_any-IsPermutation}
use Rattle.std.proofs.lemmas.Map.Keys.{IsDistinct-from_sorted, IsDistinct-IsPermutation, apart_from_distinct, sorted_from_all_adjacent}
use Rattle.fol_laws.proofs.Listed.{Tells, sorted_same}

-- what one of two tests keeps, where no element passes both: what they keep one behind the other, in another order
pub filter_either : {X : Type 0} (r p q : X → Bool) → ((x : X) → cond (r x) 1 0 ≡ cond (p x) 1 0 + cond (q x) 1 0) → (xs : List X) → IsPermutation (filter p xs ++ filter q xs) (filter r xs)
filter_either r p q h [] = IsPermutation-refl []
filter_either r p q h (x ∷ xs) =
    let rest = filter_either r p q h xs in
    let one = h x in
    elim (cases_Bool (p x)) [
      | inl a ↦ elim (cases_Bool (q x)) [
        | inl b ↦ absurd (let two : cond (r x) 1 0 ≡ 2 = rw (a, b) at one in more (r x) two)
        | inr b ↦ let e : r x ≡ true = yes (r x) (rw (a, b) at one) in rw (a, b, e) (IsPermutation-cons x (filter p xs ++ filter q xs) (filter r xs) rest)
      ]
      | inr a ↦ elim (cases_Bool (q x)) [
        | inl b ↦ let e : r x ≡ true = yes (r x) (rw (a, b) at one) in
            rw (a, b, e) (IsPermutation-trans (filter p xs ++ x ∷ filter q xs) (x ∷ (filter p xs ++ filter q xs)) (x ∷ filter r xs) (IsPermutation-middle (filter p xs) x (filter q xs)) (IsPermutation-cons x (filter p xs ++ filter q xs) (filter r xs) rest))
        | inr b ↦ let e : r x ≡ false = no (r x) (rw (a, b) at one) in rw (a, b, e) rest
      ]
    ]
  where
    more : (b : Bool) → cond {A = ℕ} b 1 0 ≡ 2 → ⊥
    more true e = absurd (omega arith)
    more false e = absurd (omega arith)

    yes : (b : Bool) → cond {A = ℕ} b 1 0 ≡ 1 → b ≡ true
    yes true e = refl
    yes false e = absurd (omega arith)

    no : (b : Bool) → cond {A = ℕ} b 1 0 ≡ 0 → b ≡ false
    no true e = absurd (omega arith)
    no false e = refl

module _ {X : Type 0} (c : X → X → Ordering) (t : Tells c) where
  reversed_eq : (r : Ordering) → is_eq (ordering_reverse r) ≡ is_eq r
  reversed_eq Less = refl
  reversed_eq Equal = refl
  reversed_eq Greater = refl

  eq-swap : (a b : X) → eq_by_cmp c a b ≡ eq_by_cmp c b a
  eq-swap a b = ap is_eq (t.order.antisymm a b) ∙ reversed_eq (c b a)

  -- of two that differ, one is less where the other is not
  less_by : (r s : Ordering) → s ≡ ordering_reverse r → is_lt s ≡ false → is_eq r ≡ false → r ≡ Less
  less_by Less s e h n = refl
  less_by Equal s e h n = absurd (true≢false n)
  less_by Greater s e h n = absurd (true≢false (sym (ap is_lt e) ∙ h))

  none-sorted : IsStrictlySortedBy c []
  unfolding IsStrictlySortedBy
  none-sorted = tt

  -- distinct elements that a sort put in order rise
  rises : (xs : List X) → IsSortedBy (λ a b. is_lt (c a b)) xs → IsDistinct (eq_by_cmp c) xs → IsStrictlySortedBy c xs
  rises [] h apart = none-sorted
  rises (x ∷ xs) h apart = sorted_from_all_adjacent t.order (x ∷ xs) x (λ k l.
      let a = get_or (x ∷ xs) k x in
      let b = get_or (x ∷ xs) (k + 1) x in
      less_by (c a b) (c b a) (t.order.antisymm b a) (h k x (omega arith) l) (apart_from_distinct (eq_by_cmp c) (x ∷ xs) k (k + 1) x apart (omega arith) l))

  -- there is one way to put the elements of a rising list in order
  pub sorted_is : (xs ys : List X) → IsSortedBy (λ a b. is_lt (c a b)) xs → IsStrictlySortedBy c ys → IsPermutation xs ys → xs ≡ ys
  sorted_is xs ys up rising moved =
      let back = IsPermutation-sym xs ys moved in
      let apart = IsDistinct-IsPermutation (eq_by_cmp c) eq-swap ys xs back (IsDistinct-from_sorted c ys rising) in
      sorted_same c t xs ys (rises xs up apart) rising (λ s. list_any-IsPermutation (eq_by_cmp c s) xs ys moved)
