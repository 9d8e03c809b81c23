-- Two lists in order are merged from their ends, into a place that ends with the second one.
use Rattle.std.proofs.Common.{◌≡◌, ℕ, suc, ◌+◌, ◌-◌, ◌<◌, ◌≤◌, List, [], ◌∷◌, ◌++◌, length, get_or, take, drop, refl, sym, ◌∙◌, ap, subst, inl, inr, arith, append_assoc, length-take, length-set}
use Rattle.std.specs.Prelude.{All, Contains, slice_set, true, false}
use Rattle.std.specs.Ordering.{is_gt, ordering_reverse}
use Rattle.std.specs.List.Sorted.{IsStrictlySortedBy, IsPermutation}
use Rattle.std.specs.Cmp.{IsTotalOrder}
use Rattle.std.specs.declared.cmp.Ordering.{Ordering}
use Rattle.std.specs.declared.cmp.Ordering.TheVariants.{Less, Equal, Greater}
use Rattle.std.specs.Prelude.{nat_lt}
use Rattle.std.proofs.lemmas.Bool.{cases_Bool, ltb-true, ltb-false}
use Rattle.std.proofs.lemmas.List.{take_all, take-take, take-set-le, drop_all, drop_more, drop-set, get_or-take, take-append-drop}
use Rattle.std.proofs.lemmas.List.Elements.{All-nil, All-cons, All-weaker, All-contains, Contains-get_or, recursion_from_All}
use Rattle.std.proofs.lemmas.List.Sorted.{IsPermutation-refl, IsPermutation-cons, IsPermutation-trans, IsPermutation-middle, IsPermutation-append_right}
use Rattle.std.proofs.lemmas.Map.Keys.{Less-from_sorted}
use Rattle.fol_keyed.specs.Apart.{Untied}
use Rattle.fol_keyed.proofs.Sorted.{sorted_append, sorted_take}

module _ {X : Type 0} (cmp : X → X → Ordering) (o : IsTotalOrder cmp) (xs ys : List X) where
  -- the last rows are in place, and the first i of the first list and the first j of the second have still to be placed
  pub record IsMerging (zs : List X) (i j : ℕ) : Type 0 where
    pub front : take i zs ≡ take i xs
    pub first_left : i ≤ length xs
    pub second_left : j ≤ length ys
    pub len : length zs ≡ length xs + length ys
    pub same : IsPermutation (drop i xs ++ drop j ys) (drop (i + j) zs)
    pub order : IsStrictlySortedBy cmp (drop (i + j) zs)
    pub first_below : (d : X) → 0 < i → All (λ z. cmp (get_or xs (i - 1) d) z ≡ Less) (drop (i + j) zs)
    pub second_below : (d : X) → 0 < j → All (λ z. cmp (get_or ys (j - 1) d) z ≡ Less) (drop (i + j) zs)

  nothing_sorted : IsStrictlySortedBy cmp []
  unfolding IsStrictlySortedBy
  nothing_sorted = tt

  one_more : (v : X) (zs : List X) → All (λ z. cmp v z ≡ Less) zs → IsStrictlySortedBy cmp zs → IsStrictlySortedBy cmp (v ∷ zs)
  unfolding IsStrictlySortedBy
  one_more v zs h s = (recursion_from_All (λ z. cmp v z ≡ Less) zs h, s)

  pub merging_begins : (zs : List X) → take (length xs) zs ≡ xs → length zs ≡ length xs + length ys → IsMerging zs (length xs) (length ys)
  merging_begins zs front len =
      let none : drop (length xs + length ys) zs ≡ [] = drop_all (length xs + length ys) zs (omega arith) in
      let first : drop (length xs) xs ≡ [] = drop_all (length xs) xs (omega arith) in
      let second : drop (length ys) ys ≡ [] = drop_all (length ys) ys (omega arith) in
      record {
        front = front ∙ sym (take_all (length xs) xs (omega arith));
        first_left = omega arith;
        second_left = omega arith;
        len = len;
        same = rw (none, first, second) (IsPermutation-refl []);
        order = rw none nothing_sorted;
        first_below = λ d l. rw none (All-nil (λ z. cmp (get_or xs (length xs - 1) d) z ≡ Less));
        second_below = λ d l. rw none (All-nil (λ z. cmp (get_or ys (length ys - 1) d) z ≡ Less));
      }

  -- what is below one that is below all is below all
  below_all : (u v : X) (zs : List X) → cmp u v ≡ Less → All (λ z. cmp v z ≡ Less) zs → All (λ z. cmp u z ≡ Less) (v ∷ zs)
  below_all u v zs l h = All-cons (λ z. cmp u z ≡ Less) v zs l (All-weaker (λ z. cmp v z ≡ Less) (λ z. cmp u z ≡ Less) (λ z m. o.trans u v z l m) zs h)

  -- what a comparison says of the row that goes to its place
  less_first : (a b : X) → is_gt (cmp a b) ≡ true → cmp b a ≡ Less
  less_first a b h = o.antisymm b a ∙ turned (cmp a b) h
    where
      turned : (r : Ordering) → is_gt r ≡ true → ordering_reverse r ≡ Less
      turned Less h = cc
      turned Equal h = cc
      turned Greater h = refl

  less_second : (a b : X) → is_gt (cmp a b) ≡ false → (cmp a b ≡ Equal → ⊥) → cmp a b ≡ Less
  less_second a b h n = only (cmp a b) h n
    where
      only : (r : Ordering) → is_gt r ≡ false → (r ≡ Equal → ⊥) → r ≡ Less
      only Less h n = refl
      only Equal h n = absurd (n refl)
      only Greater h n = cc

  pub goes_after : (j : ℕ) (r s : X) → ((d : X) → get_or ys j d ≡ s) → is_gt (cmp r s) ≡ true → (d : X) → cmp (get_or ys j d) r ≡ Less
  goes_after j r s is t d = rw (is d) (less_first r s t)

  pub goes_before : (zs : List X) (i n j : ℕ) (r s : X) → Untied cmp xs ys → IsMerging zs i n → 0 < i → n ≡ suc j → ((d : X) → get_or zs (i - 1) d ≡ r) → ((d : X) → get_or ys j d ≡ s) → is_gt (cmp r s) ≡ false
      → (d : X) → cmp (get_or xs (i - 1) d) s ≡ Less
  goes_before zs i n j r s untied h some e is is' f d =
      let mine : get_or xs (i - 1) d ≡ r = sym (get_or-take i xs (i - 1) d (omega arith)) ∙ ap (λ (l : List X). get_or l (i - 1) d) (sym h.front) ∙ get_or-take i zs (i - 1) d (omega arith) ∙ is d in
      let in_first : Contains xs r = rw mine at (Contains-get_or xs (i - 1) d (omega (arith, h.first_left))) in
      let in_second : Contains ys s = rw (is' d) at (Contains-get_or ys j d (omega (arith, h.second_left))) in
      rw mine (less_second r s f (untied r s in_first in_second))

  module _ (sorted : IsStrictlySortedBy cmp xs) (sorted' : IsStrictlySortedBy cmp ys) (zs : List X) (i j : ℕ) where
    first_step : (v : X) → IsMerging zs (suc i) j → ((d : X) → get_or zs i d ≡ v) → ((d : X) → 0 < j → cmp (get_or ys (j - 1) d) v ≡ Less) → IsMerging (slice_set zs (i + j) v) i j
    first_step v h is before =
        let more : drop (i + j) (slice_set zs (i + j) v) ≡ v ∷ drop (i + j + 1) zs = drop-set zs (i + j) v (omega (arith, h.first_left, h.second_left, h.len)) in
        let tail : drop (i + j + 1) zs ≡ drop (suc i + j) zs = ap (λ (k : ℕ). drop k zs) (omega arith) in
        let here : (d : X) → get_or xs i d ≡ v = λ d. sym (get_or-take (suc i) xs i d (omega arith)) ∙ ap (λ (l : List X). get_or l i d) (sym h.front) ∙ get_or-take (suc i) zs i d (omega arith) ∙ is d in
        let mine : drop i xs ≡ v ∷ drop (suc i) xs = drop_more xs i v (omega (arith, h.first_left)) ∙ (let next : i + 1 ≡ suc i = omega arith in rw (here v, next) refl) in
        let below : All (λ z. cmp v z ≡ Less) (drop (suc i + j) zs) = let last : suc i - 1 ≡ i = omega arith in rw (last, here v) at (h.first_below v (omega arith)) in
        record {
          front = take-set-le i zs (i + j) v (omega arith) ∙ sym (take-take i (suc i) zs (omega arith)) ∙ ap (λ (l : List X). take i l) h.front ∙ take-take i (suc i) xs (omega arith);
          first_left = omega (arith, h.first_left);
          second_left = h.second_left;
          len = omega (arith, length-set {A = X} zs (i + j) v, h.len);
          same = rw (more, tail, mine) (IsPermutation-cons v _ _ h.same);
          order = rw (more, tail) (one_more v _ below h.order);
          first_below = λ d l. rw (more, tail) (below_all (get_or xs (i - 1) d) v _ (rw (here d) at (Less-from_sorted cmp xs (i - 1) i d sorted (omega arith) (omega (arith, h.first_left)))) below);
          second_below = λ d l. rw (more, tail) (below_all (get_or ys (j - 1) d) v _ (before d l) below);
        }

    second_step : (v : X) → IsMerging zs i (suc j) → ((d : X) → get_or ys j d ≡ v) → ((d : X) → 0 < i → cmp (get_or xs (i - 1) d) v ≡ Less) → IsMerging (slice_set zs (i + j) v) i j
    second_step v h is before =
        let more : drop (i + j) (slice_set zs (i + j) v) ≡ v ∷ drop (i + j + 1) zs = drop-set zs (i + j) v (omega (arith, h.first_left, h.second_left, h.len)) in
        let tail : drop (i + j + 1) zs ≡ drop (i + suc j) zs = ap (λ (k : ℕ). drop k zs) (omega arith) in
        let mine : drop j ys ≡ v ∷ drop (suc j) ys = drop_more ys j v (omega (arith, h.second_left)) ∙ (let next : j + 1 ≡ suc j = omega arith in rw (is v, next) refl) in
        let below : All (λ z. cmp v z ≡ Less) (drop (i + suc j) zs) = let last : suc j - 1 ≡ j = omega arith in rw (last, is v) at (h.second_below v (omega arith)) in
        record {
          front = take-set-le i zs (i + j) v (omega arith) ∙ h.front;
          first_left = h.first_left;
          second_left = omega (arith, h.second_left);
          len = omega (arith, length-set {A = X} zs (i + j) v, h.len);
          same = rw (more, tail, mine) (IsPermutation-trans _ _ _ (IsPermutation-middle (drop i xs) v (drop (suc j) ys)) (IsPermutation-cons v _ _ h.same));
          order = rw (more, tail) (one_more v _ below h.order);
          first_below = λ d l. rw (more, tail) (below_all (get_or xs (i - 1) d) v _ (before d l) below);
          second_below = λ d l. rw (more, tail) (below_all (get_or ys (j - 1) d) v _ (rw (is d) at (Less-from_sorted cmp ys (j - 1) j d sorted' (omega arith) (omega (arith, h.second_left)))) below);
        }

    pub merging_first : (n : ℕ) (v : X) → n ≡ suc i → IsMerging zs n j → ((d : X) → get_or zs i d ≡ v) → ((d : X) → 0 < j → cmp (get_or ys (j - 1) d) v ≡ Less) → IsMerging (slice_set zs (i + j) v) i j
    merging_first n v e h is before = let P : ℕ → Type 0 = λ k. IsMerging zs k j in first_step v (subst P e h) is before

    pub merging_second : (n : ℕ) (v : X) → n ≡ suc j → IsMerging zs i n → ((d : X) → get_or ys j d ≡ v) → ((d : X) → 0 < i → cmp (get_or xs (i - 1) d) v ≡ Less) → IsMerging (slice_set zs (i + j) v) i j
    merging_second n v e h is before = let P : ℕ → Type 0 = λ k. IsMerging zs i k in second_step v (subst P e h) is before

    in_order : IsMerging zs i 0 → (x y : X) → Contains (take i xs) x → Contains (drop (i + 0) zs) y → cmp x y ≡ Less
    in_order h x y (k, l, e) m =
        let lt : k < i = omega (arith, length-take i xs) in
        let is : get_or xs k x ≡ x = sym (get_or-take i xs k x lt) ∙ e in
        let last : cmp (get_or xs (i - 1) x) y ≡ Less = All-contains (λ z. cmp (get_or xs (i - 1) x) z ≡ Less) (drop (i + 0) zs) y (h.first_below x (omega arith)) m in
        elim (cases_Bool (nat_lt k (i - 1))) [
          | inl t ↦ let before : k < i - 1 = ltb-true k (i - 1) t in o.trans x (get_or xs (i - 1) x) y (rw is at (Less-from_sorted cmp xs k (i - 1) x sorted before (omega (arith, h.first_left)))) last
          | inr t ↦ let past : i - 1 ≤ k = ltb-false k (i - 1) t in let at_last : k ≡ i - 1 = omega arith in let same : get_or xs (i - 1) x ≡ x = ap (λ (q : ℕ). get_or xs q x) (sym at_last) ∙ is in rw same at last
        ]

    pub merging_ends : IsMerging zs i 0 → IsPermutation (xs ++ ys) zs × IsStrictlySortedBy cmp zs
    merging_ends h =
        let whole : take i xs ++ drop i zs ≡ zs = ap (λ (l : List X). l ++ drop i zs) (sym h.front) ∙ take-append-drop i zs in
        let parts : take i xs ++ (drop i xs ++ ys) ≡ xs ++ ys = sym (append_assoc (take i xs) (drop i xs) ys) ∙ ap (λ (l : List X). l ++ ys) (take-append-drop i xs) in
        let at_end : i + 0 ≡ i = omega arith in
        let same : IsPermutation (drop i xs ++ ys) (drop i zs) = rw at_end at h.same in
        let order : IsStrictlySortedBy cmp (drop i zs) = rw at_end at h.order in
        let moved : IsPermutation (take i xs ++ (drop i xs ++ ys)) (take i xs ++ drop i zs) = IsPermutation-append_right (take i xs) (drop i xs ++ ys) (drop i zs) same in
        (rw (parts, whole) at moved, rw whole at (sorted_append (λ (x : X). x) cmp o (take i xs) (drop i zs) (sorted_take (λ (x : X). x) cmp o i xs sorted) order (rw at_end at (in_order h))))

    pub merging_ends_at : (n : ℕ) → n ≡ 0 → IsMerging zs i n → IsPermutation (xs ++ ys) zs × IsStrictlySortedBy cmp zs
    merging_ends_at n e h = let P : ℕ → Type 0 = λ k. IsMerging zs i k in merging_ends (subst P e h)
