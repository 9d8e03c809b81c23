-- Lists in the strict order of any comparison that tells its elements apart: a list in order whose members are those that pass a
-- test is what the test keeps of the list of all, and a test that changes at one element changes a count by that one.
use Rattle.std.proofs.Common.{◌≡◌, ◌+◌, refl, sym, ◌∙◌, ap, arith, Bool, true, false, cond, inl, inr, List, [], ◌∷◌, length, ◌&&◌}
use Rattle.std.specs.Prelude.{filter}
use Rattle.std.specs.List.{AllByRecursion, count_by, list_any}
use Rattle.std.specs.List.Sorted.{IsStrictlySortedBy}
use Rattle.std.specs.Cmp.{IsTotalOrder}
use Rattle.std.specs.Ordering.{is_eq, eq_by_cmp, ordering_reverse}
use Rattle.std.specs.declared.cmp.Ordering.{Ordering}
use Rattle.std.specs.declared.cmp.Ordering.TheVariants.{Less, Equal, Greater}
use Rattle.std.proofs.lemmas.List.Kept.{IsStrictlySortedBy-filter}
use Rattle.std.proofs.lemmas.List.Sums.{length-filter}
use Rattle.std.proofs.lemmas.Bool.{cases_Bool, or_cases, or_left, or_parts, true≢false}
use Rattle.fol_laws.proofs.ListCounts.{count_by-cons}

-- the order tells any two apart
pub record Tells {X : Type 0} (c : X → X → Ordering) : Type 0 where
  pub order : IsTotalOrder c
  pub same : (a b : X) → c a b ≡ Equal → a ≡ b

equal_if : (r : Ordering) → is_eq r ≡ true → r ≡ Equal
equal_if Less e = absurd (true≢false (sym e))
equal_if Equal e = refl
equal_if Greater e = absurd (true≢false (sym e))

self_equal : (r : Ordering) → r ≡ ordering_reverse r → r ≡ Equal
self_equal Less e = absurd (cc)
self_equal Equal e = refl
self_equal Greater e = absurd (cc)

module _ {X : Type 0} (c : X → X → Ordering) (t : Tells c) where
  pub same_by : (a b : X) → eq_by_cmp c a b ≡ true → a ≡ b
  same_by a b e = t.same a b (equal_if (c a b) e)

  pub own : (a : X) → eq_by_cmp c a a ≡ true
  own a = let e = self_equal (c a a) (t.order.antisymm a a) in rw e refl

  not_both : (a b : X) → c a b ≡ Less → c b a ≡ Less → ⊥
  not_both a b h k = let e = t.order.antisymm a b in let f : Less ≡ ordering_reverse Less = rw (h, k) at e in cc

  not_in_later : (a : X) (xs : List X) → AllByRecursion (λ y. c a y ≡ Less) xs → list_any (eq_by_cmp c a) xs ≡ false
  not_in_later a [] h = refl
  not_in_later a (x ∷ xs) h = let e : c a x ≡ Less = h.0 in rw e (not_in_later a xs h.1)

  in_later : (a q : X) (xs : List X) → AllByRecursion (λ y. c a y ≡ Less) xs → list_any (eq_by_cmp c q) xs ≡ true → c a q ≡ Less
  in_later a q [] h e = absurd (true≢false (sym e))
  in_later a q (x ∷ xs) h e = elim (or_cases (eq_by_cmp c q x) (list_any (eq_by_cmp c q) xs) e) [
    | inl k ↦ let s = same_by q x k in rw s h.0
    | inr k ↦ in_later a q xs h.1 k
  ]

  -- two lists in order with the same members are equal
  pub sorted_same : (xs ys : List X) → IsStrictlySortedBy c xs → IsStrictlySortedBy c ys → ((s : X) → list_any (eq_by_cmp c s) xs ≡ list_any (eq_by_cmp c s) ys) → xs ≡ ys
  unfolding IsStrictlySortedBy
  sorted_same [] [] a b h = refl
  sorted_same [] (y ∷ ys) a b h = absurd (true≢false (sym (or_left _ _ (own y)) ∙ sym (h y)))
  sorted_same (x ∷ xs) [] a b h = absurd (true≢false (sym (or_left _ _ (own x)) ∙ h x))
  sorted_same (x ∷ xs) (y ∷ ys) a b h =
      let first : x ≡ y = elim (or_cases (eq_by_cmp c x y) (list_any (eq_by_cmp c x) ys) (sym (h x) ∙ or_left _ _ (own x))) [
        | inl e ↦ same_by x y e
        | inr e ↦ elim (or_cases (eq_by_cmp c y x) (list_any (eq_by_cmp c y) xs) (h y ∙ or_left _ _ (own y))) [
          | inl f ↦ sym (same_by y x f)
          | inr f ↦ absurd (not_both y x (in_later y x ys b.0 e) (in_later x y xs a.0 f))
        ]
      ] in
      let rest : xs ≡ ys = sorted_same xs ys a.1 b.1 (λ s. elim (cases_Bool (eq_by_cmp c s x)) [
        | inl e ↦ let k = same_by s x e in rw k (not_in_later x xs a.0 ∙ sym (let z = not_in_later y ys b.0 in rw first z))
        | inr e ↦ let k = h s in let f : eq_by_cmp c s y ≡ false = rw first at e in rw (e, f) at k
      ]) in
      λ i. first i ∷ rest i

  pub filter_members : (p : X → Bool) (xs : List X) (s : X) → list_any (eq_by_cmp c s) (filter p xs) ≡ (p s && list_any (eq_by_cmp c s) xs)
  filter_members p [] s = elim (p s) as (λ b. false ≡ (b && false)) [ true ↦ refl | false ↦ refl ]
  filter_members p (x ∷ xs) s = elim (cases_Bool (p x)) [
    | inl k ↦ elim (cases_Bool (eq_by_cmp c s x)) [
      | inl e ↦ let q : p s ≡ true = ap p (same_by s x e) ∙ k in rw (k, e, q) refl
      | inr e ↦ rw (k, e) (filter_members p xs s)
    ]
    | inr k ↦ elim (cases_Bool (eq_by_cmp c s x)) [
      | inl e ↦ let q : p s ≡ false = ap p (same_by s x e) ∙ k in let r = filter_members p xs s in let m = rw q at r in rw (k, e, q) m
      | inr e ↦ rw (k, e) (filter_members p xs s)
    ]
  ]

  module _ (all : List X) (sorted : IsStrictlySortedBy c all) where
    -- `all` has each element that passes, and xs has just these
    pub rows_are : (p : X → Bool) (xs : List X) → IsStrictlySortedBy c xs → ((s : X) → list_any (eq_by_cmp c s) xs ≡ p s)
        → ((s : X) → p s ≡ true → list_any (eq_by_cmp c s) all ≡ true) → (xs ≡ filter p all) × (length xs ≡ count_by p all)
    rows_are p xs b h l =
        let e : xs ≡ filter p all = sorted_same xs (filter p all) b (IsStrictlySortedBy-filter c p all sorted) (λ s. h s ∙ sym (filter_members p all s ∙ elim (cases_Bool (p s)) [
          | inl k ↦ rw k (l s k)
          | inr k ↦ rw k refl
        ])) in
        (e, ap length e ∙ length-filter p all)

  count_agrees : (p q : X → Bool) (a : X) → ((s : X) → eq_by_cmp c a s ≡ false → p s ≡ q s) → (xs : List X) → list_any (eq_by_cmp c a) xs ≡ false → count_by p xs ≡ count_by q xs
  count_agrees p q a h [] i = refl
  count_agrees p q a h (x ∷ xs) i = let k = or_parts (eq_by_cmp c a x) (list_any (eq_by_cmp c a) xs) i in let e = h x k.0 in let rest = count_agrees p q a h xs k.1 in
      grind (arith, count_by-cons p x xs, count_by-cons q x xs, rest, e)

  -- two tests that differ at most at one element, which q does not pass
  pub count_change : (p q : X → Bool) (a : X) → q a ≡ false → ((s : X) → eq_by_cmp c a s ≡ false → p s ≡ q s)
      → (xs : List X) → IsStrictlySortedBy c xs → list_any (eq_by_cmp c a) xs ≡ true → count_by p xs ≡ cond (p a) 1 0 + count_by q xs
  unfolding IsStrictlySortedBy
  count_change p q a z h [] o i = absurd (true≢false (sym i))
  count_change p q a z h (x ∷ xs) o i = elim (cases_Bool (eq_by_cmp c a x)) [
    | inl e ↦ let s : a ≡ x = same_by a x e in
        let zx : q x ≡ false = rw s at z in
        let rest = count_agrees p q a h xs (let k = not_in_later x xs o.0 in rw s k) in
        let pa : p a ≡ p x = ap p s in
        rw pa (grind (arith, count_by-cons p x xs, count_by-cons q x xs, rest, zx))
    | inr e ↦ let k = h x e in let rest = count_change p q a z h xs o.1 (rw e at i) in grind (arith, count_by-cons p x xs, count_by-cons q x xs, rest, k)
  ]
