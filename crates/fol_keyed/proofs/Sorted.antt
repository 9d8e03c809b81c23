-- Lists in strict order of a key.
use Rattle.std.proofs.Common.{◌≡◌, ℕ, zero, suc, ◌+◌, ◌<◌, ◌≤◌, Bool, true, false, List, [], ◌∷◌, ◌++◌, length, get_or, take, drop, refl, sym, ◌∙◌, ap, subst, ◌⊎◌, inl, inr, arith, length-take, length-drop}
use Rattle.std.specs.Prelude.{All, Contains, slice_set, Result, Ok, Err, nat_lt}
use Rattle.std.specs.List.{IsDistinct, AllByRecursion, insert, remove, AllWithin}
use Rattle.std.specs.List.Sorted.{IsSortedBy, IsStrictlySortedBy, IsBinarySearchResult, IsSearchInRange, IsPartitionPoint}
use Rattle.std.specs.Result.{MatchResult}
use Rattle.std.specs.Cmp.{IsTotalOrder, tied_itself}
use Rattle.std.specs.Ordering.{is_gt, is_lt, ordering_reverse}
use Rattle.std.specs.declared.cmp.Ordering.{Ordering}
use Rattle.std.specs.declared.cmp.Ordering.TheVariants.{Less, Equal, Greater}
use Rattle.std.proofs.lemmas.List.Sorted.{searchable_from_sorted}
use Rattle.std.proofs.lemmas.Map.Keys.{Less-from_sorted}
use Rattle.std.proofs.lemmas.Bool.{cases_Bool, ltb-true, ltb-false}
use Rattle.std.proofs.lemmas.List.{get_or-take, get_or-drop, get_or_default}
use Rattle.std.proofs.lemmas.List.Elements.{All-contains, All-weaker, recursion_from_All}
use Rattle.fol_keyed.proofs.Keyed.{contains_cases}

-- the second stands above the first where the first stands below the second
turned : (r s : Ordering) → r ≡ ordering_reverse s → s ≡ Less → is_lt r ≡ false
turned r s e h = rw (e, h) refl

greater_first : (r s : Ordering) → r ≡ ordering_reverse s → s ≡ Greater → r ≡ Less
greater_first r s e h = rw (e, h) refl

less_first : (r s : Ordering) → r ≡ ordering_reverse s → s ≡ Less → r ≡ Greater
less_first r s e h = rw (e, h) refl

lt_is_Less : (r : Ordering) → is_lt r ≡ true → r ≡ Less
lt_is_Less Less h = refl
lt_is_Less Equal h = cc
lt_is_Less Greater h = cc

gt_is_Greater : (r : Ordering) → is_gt r ≡ true → r ≡ Greater
gt_is_Greater Less h = cc
gt_is_Greater Equal h = cc
gt_is_Greater Greater h = refl

module _ {X : Type 0} (P : X → Type 0) where
  front_all : (xs : List X) (i : ℕ) → i ≤ length xs → AllWithin P xs 0 i → All P (take i xs)
  front_all xs i l h = λ k d m. let n : k < i = omega (arith, length-take i xs) in rw (get_or-take i xs k d n) (h k d (omega arith) n)

  back_all : (xs : List X) (i : ℕ) → AllWithin P xs i (length xs) → All P (drop i xs)
  back_all xs i h = λ k d m. rw (get_or-drop i xs k d) (h (i + k) d (omega arith) (omega (arith, length-drop i xs)))

module _ {X K : Type 0} (key : X → K) (cmp : K → K → Ordering) (o : IsTotalOrder cmp) where
  abbrev pub by_key : X → X → Ordering
  by_key a b = cmp (key a) (key b)

  sorted_adjacent : (xs : List X) → IsStrictlySortedBy by_key xs → IsSortedBy (λ a b. is_lt (cmp (key a) (key b))) xs
  sorted_adjacent xs h = λ k d l m. turned _ _ (o.antisymm (key (get_or xs (k + 1) d)) (key (get_or xs k d))) (Less-from_sorted by_key xs k (k + 1) d h (omega arith) m)

  -- what a binary search of a key finds
  pub searched_by : (tell : (a b : K) → cmp a b ≡ Equal → a ≡ b) (xs : List X) (k : K) (r : Result ℕ ℕ) → IsStrictlySortedBy by_key xs → IsSearchInRange r (length xs) → IsBinarySearchResult (λ x. cmp (key x) k) xs r
      → MatchResult r (λ i. (i < length xs) × ((d : X) → key (get_or xs i d) ≡ k)) (λ i. (i ≤ length xs) × IsPartitionPoint (λ x. cmp (key x) k ≡ Less) (λ x. cmp (key x) k ≡ Greater) xs i)
  searched_by tell xs k (Ok i) s b h = (b, λ d. tell (key (get_or xs i d)) k (h d))
  searched_by tell xs k (Err i) s b h = (b, h (searchable_from_sorted o key xs k (sorted_adjacent xs s)))

  -- one list behind another stays in order where each of the first is below each of the second
  pub sorted_append : (xs ys : List X) → IsStrictlySortedBy by_key xs → IsStrictlySortedBy by_key ys → ((x y : X) → Contains xs x → Contains ys y → by_key x y ≡ Less) → IsStrictlySortedBy by_key (xs ++ ys)
  unfolding IsStrictlySortedBy
  sorted_append [] ys s t h = t
  sorted_append (x ∷ xs) ys s t h = (spread x xs ys s.0 (λ y m. h x y (0, omega arith, refl) m), sorted_append xs ys s.1 t (λ a b m n. h a b (more a x xs m) n))
    where
      more : (a x : X) (xs : List X) → Contains xs a → Contains (x ∷ xs) a
      more a x xs (k, l, e) = (suc k, omega arith, e)

      spread : (x : X) (xs ys : List X) → AllByRecursion (λ z. by_key x z ≡ Less) xs → ((y : X) → Contains ys y → by_key x y ≡ Less) → AllByRecursion (λ z. by_key x z ≡ Less) (xs ++ ys)
      spread x [] [] h f = tt
      spread x [] (y ∷ ys) h f = (f y (0, omega arith, refl), spread x [] ys tt (λ z m. f z (more z y ys m)))
      spread x (z ∷ zs) ys h f = (h.0, spread x zs ys h.1 f)

  pub sorted_take : (i : ℕ) (xs : List X) → IsStrictlySortedBy by_key xs → IsStrictlySortedBy by_key (take i xs)
  unfolding IsStrictlySortedBy
  sorted_take zero xs s = tt
  sorted_take (suc i) [] s = tt
  sorted_take (suc i) (x ∷ xs) s = (front (λ z. by_key x z ≡ Less) i xs s.0, sorted_take i xs s.1)
    where
      front : (P : X → Type 0) (i : ℕ) (xs : List X) → AllByRecursion P xs → AllByRecursion P (take i xs)
      front P zero xs h = tt
      front P (suc i) [] h = tt
      front P (suc i) (x ∷ xs) h = (h.0, front P i xs h.1)

  pub sorted_drop : (i : ℕ) (xs : List X) → IsStrictlySortedBy by_key xs → IsStrictlySortedBy by_key (drop i xs)
  unfolding IsStrictlySortedBy
  sorted_drop zero xs s = s
  sorted_drop (suc i) [] s = tt
  sorted_drop (suc i) (x ∷ xs) s = sorted_drop i xs s.1

  pub sorted_remove : (xs : List X) (i : ℕ) → IsStrictlySortedBy by_key xs → IsStrictlySortedBy by_key (remove xs i)
  unfolding IsStrictlySortedBy
  sorted_remove [] zero s = tt
  sorted_remove [] (suc i) s = tt
  sorted_remove (x ∷ xs) zero s = s.1
  sorted_remove (x ∷ xs) (suc i) s = (without (λ z. by_key x z ≡ Less) i xs s.0, sorted_remove xs i s.1)
    where
      without : (P : X → Type 0) (i : ℕ) (xs : List X) → AllByRecursion P xs → AllByRecursion P (remove xs i)
      without P zero [] h = tt
      without P (suc i) [] h = tt
      without P zero (x ∷ xs) h = h.1
      without P (suc i) (x ∷ xs) h = (h.0, without P i xs h.1)

  -- a new element between what is below it and what is above it
  pub sorted_insert : (xs : List X) (i : ℕ) (y : X) → IsStrictlySortedBy by_key xs → i ≤ length xs → IsPartitionPoint (λ x. cmp (key x) (key y) ≡ Less) (λ x. cmp (key x) (key y) ≡ Greater) xs i → IsStrictlySortedBy by_key (insert xs i y)
  unfolding IsStrictlySortedBy
  sorted_insert xs i y s l p =
      sorted_append (take i xs) (y ∷ drop i xs) (sorted_take i xs s) (recursion_from_All (λ z. by_key y z ≡ Less) (drop i xs) above, sorted_drop i xs s)
      (λ a b m n. apart a b (All-contains (λ z. by_key z y ≡ Less) (take i xs) a below m) (contains_cases b y (drop i xs) n))
    where
      below : All (λ z. by_key z y ≡ Less) (take i xs)
      below = front_all (λ z. by_key z y ≡ Less) xs i l p.0

      above : All (λ z. by_key y z ≡ Less) (drop i xs)
      above = All-weaker (λ z. by_key z y ≡ Greater) (λ z. by_key y z ≡ Less) (λ z h. greater_first (cmp (key y) (key z)) (cmp (key z) (key y)) (o.antisymm (key y) (key z)) h) (drop i xs) (back_all (λ z. by_key z y ≡ Greater) xs i p.1)

      apart : (a b : X) → by_key a y ≡ Less → (y ≡ b) ⊎ Contains (drop i xs) b → by_key a b ≡ Less
      apart a b h (inl e) = ap (λ z. by_key a z) (sym e) ∙ h
      apart a b h (inr m) = o.trans (key a) (key y) (key b) h (All-contains (λ z. by_key y z ≡ Less) (drop i xs) b above m)

  -- an element takes the place of one with its key
  pub sorted_set : (xs : List X) (i : ℕ) (y : X) → IsStrictlySortedBy by_key xs → ((d : X) → key (get_or xs i d) ≡ key y) → i < length xs → IsStrictlySortedBy by_key (slice_set xs i y)
  unfolding IsStrictlySortedBy
  sorted_set [] i y s e l = absurd (omega arith)
  sorted_set (x ∷ xs) zero y s e l = (let P : K → Type 0 = λ q. AllByRecursion (λ z. cmp q (key z) ≡ Less) xs in subst P (e x) s.0, s.1)
  sorted_set (x ∷ xs) (suc i) y s e l = (all_set (λ z. by_key x z ≡ Less) xs i y s.0 (λ d h. ap (λ q. cmp (key x) q) (sym (e d)) ∙ h) (omega arith), sorted_set xs i y s.1 e (omega arith))
    where
      all_set : (P : X → Type 0) (xs : List X) (i : ℕ) (y : X) → AllByRecursion P xs → ((d : X) → P (get_or xs i d) → P y) → i < length xs → AllByRecursion P (slice_set xs i y)
      all_set P [] i y h f l = absurd (omega arith)
      all_set P (x ∷ xs) zero y h f l = (f x h.0, h.1)
      all_set P (x ∷ xs) (suc i) y h f l = (h.0, all_set P xs i y h.1 f (omega arith))

  -- keys in strict order differ
  pub differ_from_sorted : (same : K → K → Bool) → ((a b : K) → same a b ≡ true → a ≡ b) → (xs : List X) → IsStrictlySortedBy by_key xs → IsDistinct (λ a b. same (key a) (key b)) xs
  unfolding IsStrictlySortedBy IsDistinct
  differ_from_sorted same tells [] s = tt
  differ_from_sorted same tells (x ∷ xs) s = (all x xs s.0, differ_from_sorted same tells xs s.1)
    where
      other : (x y : X) → by_key x y ≡ Less → same (key x) (key y) ≡ false
      other x y h =
          elim (cases_Bool (same (key x) (key y))) [
            | inl e ↦
                let w : cmp (key x) (key x) ≡ Less = ap (λ q. cmp (key x) q) (tells (key x) (key y) e) ∙ h in
                let v : cmp (key x) (key x) ≡ Equal = tied_itself o (key x) in
                cc
            | inr e ↦ e
          ]

      all : (x : X) (xs : List X) → AllByRecursion (λ y. by_key x y ≡ Less) xs → AllByRecursion (λ y. same (key x) (key y) ≡ false) xs
      all x [] h = tt
      all x (y ∷ ys) h = (other x y h.0, all x ys h.1)

  -- a key between what is below it and what is above it is not there
  pub none_between : (xs : List X) (i : ℕ) (k : K) → IsPartitionPoint (λ x. cmp (key x) k ≡ Less) (λ x. cmp (key x) k ≡ Greater) xs i → (x : X) → Contains xs x → key x ≡ k → ⊥
  none_between xs i k p x (j, l, e) same_key =
      let tied : cmp (key x) k ≡ Equal = ap (λ q. cmp q k) same_key ∙ tied_itself o k in
      elim (cases_Bool (nat_lt j i)) [
        | inl t ↦ let w : cmp (key x) k ≡ Less = ap (λ (z : X). cmp (key z) k) (sym e) ∙ p.0 j x (omega arith) (ltb-true j i t) in cc
        | inr t ↦ let w : cmp (key x) k ≡ Greater = ap (λ (z : X). cmp (key z) k) (sym e) ∙ p.1 j x (ltb-false j i t) l in cc
      ]

  -- what stands up to one that is below a key is below it too
  pub all_below : (xs : List X) (i : ℕ) (d : X) (k : K) → IsStrictlySortedBy by_key xs → i < length xs → is_lt (cmp (key (get_or xs i d)) k) ≡ true → AllWithin (λ x. cmp (key x) k ≡ Less) xs 0 (i + 1)
  all_below xs i d k s l h = λ j e m n.
      elim (cases_Bool (nat_lt j i)) [
        | inl t ↦ o.trans (key (get_or xs j e)) (key (get_or xs i e)) k (Less-from_sorted by_key xs j i e s (ltb-true j i t) l) (at_default e)
        | inr t ↦ let same : j ≡ i = omega (arith, ltb-false j i t) in rw same (at_default e)
      ]
    where
      at_default : (e : X) → cmp (key (get_or xs i e)) k ≡ Less
      at_default e = rw (get_or_default xs i e d l) (lt_is_Less (cmp (key (get_or xs i d)) k) h)

  -- what stands from one on that is above a key is above it too
  pub all_above : (xs : List X) (i : ℕ) (d : X) (k : K) → IsStrictlySortedBy by_key xs → i < length xs → is_gt (cmp (key (get_or xs i d)) k) ≡ true → AllWithin (λ x. cmp (key x) k ≡ Greater) xs i (length xs)
  all_above xs i d k s l h = λ j e m n.
      elim (cases_Bool (nat_lt i j)) [
        | inl t ↦ above (key (get_or xs j e)) (key (get_or xs i e)) (Less-from_sorted by_key xs i j e s (ltb-true i j t) n) (at_default e)
        | inr t ↦ let same : j ≡ i = omega (arith, ltb-false i j t) in rw same (at_default e)
      ]
    where
      at_default : (e : X) → cmp (key (get_or xs i e)) k ≡ Greater
      at_default e = rw (get_or_default xs i e d l) (gt_is_Greater (cmp (key (get_or xs i d)) k) h)

      above : (a b : K) → cmp b a ≡ Less → cmp b k ≡ Greater → cmp a k ≡ Greater
      above a b p q = less_first (cmp a k) (cmp k a) (o.antisymm a k) (o.trans k b a (greater_first (cmp k b) (cmp b k) (o.antisymm k b) q) p)
