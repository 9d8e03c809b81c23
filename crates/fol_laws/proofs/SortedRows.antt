-- Lists that are made row by row over a range of numbers: their order, and what they contain.
use Rattle.std.proofs.Common.{◌≡◌, ℕ, zero, suc, ◌<◌, refl, sym, ◌∙◌, ap, arith, Bool, true, List, [], ◌∷◌, ◌++◌}
use Rattle.std.specs.Prelude.{ℤ, pos, ◌+ℤ◌, ◌<ℤ◌, map, flat_map}
use Rattle.std.specs.List.{AllByRecursion, list_any}
use Rattle.std.specs.List.Sorted.{IsStrictlySortedBy}
use Rattle.std.specs.declared.cmp.Ordering.{Ordering}
use Rattle.std.specs.declared.cmp.Ordering.TheVariants.{Less}
use Rattle.std.proofs.lemmas.List.Concat.{flat_map-cons}
use Rattle.std.proofs.lemmas.List.Folds.{list_any-append}
use Rattle.std.proofs.lemmas.Bool.{or_left, or_right}
use borrow.Author.Differences.{ints}
use Rattle.fol_model.specs.Universe.{from}
use Rattle.fol_laws.proofs.Coordinates.{list_any-from, list_any-map, list_any-flat_map, list_any-from_gives}

-- each of the first list is before each of the second
abbrev pub AllBefore : {X : Type 0} → (X → X → Ordering) → List X → List X → Type 0
AllBefore c xs ys = AllByRecursion (λ x. AllByRecursion (λ y. c x y ≡ Less) ys) xs

module _ {X : Type 0} where
  pub all_append : (P : X → Type 0) (xs ys : List X) → AllByRecursion P xs → AllByRecursion P ys → AllByRecursion P (xs ++ ys)
  all_append P [] ys a b = b
  all_append P (x ∷ xs) ys a b = (a.0, all_append P xs ys a.1 b)

  all_both : (P Q : X → Type 0) (xs : List X) → AllByRecursion P xs → AllByRecursion Q xs → AllByRecursion (λ x. P x × Q x) xs
  all_both P Q [] a b = tt
  all_both P Q (x ∷ xs) a b = ((a.0, b.0), all_both P Q xs a.1 b.1)

  all_weaker : (P Q : X → Type 0) → ((x : X) → P x → Q x) → (xs : List X) → AllByRecursion P xs → AllByRecursion Q xs
  all_weaker P Q f [] h = tt
  all_weaker P Q f (x ∷ xs) h = (f x h.0, all_weaker P Q f xs h.1)

  all_of : (P : X → Type 0) → ((x : X) → P x) → (xs : List X) → AllByRecursion P xs
  all_of P f [] = tt
  all_of P f (x ∷ xs) = (f x, all_of P f xs)

  pub all_mapped : (P : X → Type 0) (g : ℤ → X) (xs : List ℤ) → ((x : ℤ) → P (g x)) → AllByRecursion P (map g xs)
  all_mapped P g [] h = tt
  all_mapped P g (x ∷ xs) h = (h x, all_mapped P g xs h)

  pub all_in_rows : (P : X → Type 0) (f : ℤ → List X) (xs : List ℤ) → ((x : ℤ) → AllByRecursion P (f x)) → AllByRecursion P (flat_map f xs)
  all_in_rows P f [] h = tt
  all_in_rows P f (x ∷ xs) h = rw (flat_map-cons {A = X} f x xs) (all_append P (f x) _ (h x) (all_in_rows P f xs h))

  -- what a test finds in one row it finds in all of them
  pub in_rows : (p : X → Bool) (f : ℤ → List X) (z x : ℤ) (n i : ℕ) → x ≡ z +ℤ pos i → i < n → list_any p (f x) ≡ true → list_any p (flat_map f (from z n)) ≡ true
  unfolding from
  in_rows p f z x zero i e l h = absurd (omega arith)
  in_rows p f z x (suc n) zero e l h = let s : x ≡ z = omega (arith, ints) in
      rw (flat_map-cons {A = X} f z (from (z +ℤ pos 1) n)) (list_any-append p (f z) _ ∙ or_left (list_any p (f z)) _ (rw s at h))
  in_rows p f z x (suc n) (suc i) e l h =
      rw (flat_map-cons {A = X} f z (from (z +ℤ pos 1) n)) (list_any-append p (f z) _ ∙ or_right (list_any p (f z)) _ (in_rows p f (z +ℤ pos 1) x n i (omega (arith, ints)) (omega arith) h))

  pub in_row : (p : X → Bool) (g : ℤ → X) (z x : ℤ) (n i : ℕ) → x ≡ z +ℤ pos i → i < n → p (g x) ≡ true → list_any p (map g (from z n)) ≡ true
  in_row p g z x n i e l h = list_any-map p g (from z n) ∙ list_any-from (λ y. p (g y)) z x n i e l h

  -- and back: in which row, or at which place of a row, a test finds what it finds
  pub in_rows_gives : (p : X → Bool) (f : ℤ → List X) (z : ℤ) (n : ℕ) → list_any p (flat_map f (from z n)) ≡ true → (x : ℤ) × ((i : ℕ) × (i < n) × (x ≡ z +ℤ pos i)) × (list_any p (f x) ≡ true)
  in_rows_gives p f z n h = list_any-from_gives (λ x. list_any p (f x)) z n (sym (list_any-flat_map p f (from z n)) ∙ h)

  pub in_row_gives : (p : X → Bool) (g : ℤ → X) (z : ℤ) (n : ℕ) → list_any p (map g (from z n)) ≡ true → (x : ℤ) × ((i : ℕ) × (i < n) × (x ≡ z +ℤ pos i)) × (p (g x) ≡ true)
  in_row_gives p g z n h = list_any-from_gives (λ x. p (g x)) z n (sym (list_any-map p g (from z n)) ∙ h)

  single : (g : ℤ → X) (xs : List ℤ) → flat_map (λ x. g x ∷ []) xs ≡ map g xs
  single g [] = refl
  single g (x ∷ xs) = ap (λ t. g x ∷ t) (single g xs)

  module _ (c : X → X → Ordering) where
    pub sorted_append : (xs ys : List X) → IsStrictlySortedBy c xs → IsStrictlySortedBy c ys → AllBefore c xs ys → IsStrictlySortedBy c (xs ++ ys)
    unfolding IsStrictlySortedBy
    sorted_append [] ys a b h = b
    sorted_append (x ∷ xs) ys a b h = (all_append (λ y. c x y ≡ Less) xs ys a.0 h.0, sorted_append xs ys a.1 b h.1)

    -- a row is before all later ones
    later : (f : ℤ → List X) (lower : (y z : ℤ) → y <ℤ z → AllBefore c (f y) (f z)) (z w : ℤ) (n : ℕ) → z <ℤ w → AllBefore c (f z) (flat_map f (from w n))
    unfolding from
    later f lower z w zero l = all_of (λ a. Unit {0}) (λ a. tt) (f z)
    later f lower z w (suc n) l = rw (flat_map-cons {A = X} f w (from (w +ℤ pos 1) n))
        (all_weaker _ _ (λ a h. all_append (λ b. c a b ≡ Less) (f w) (flat_map f (from (w +ℤ pos 1) n)) h.0 h.1) (f z)
        (all_both (λ a. AllByRecursion (λ b. c a b ≡ Less) (f w)) (λ a. AllByRecursion (λ b. c a b ≡ Less) (flat_map f (from (w +ℤ pos 1) n))) (f z)
        (lower z w l) (later f lower z (w +ℤ pos 1) n (omega (arith, ints)))))

    -- sorted rows, each before the next
    pub rows_sorted : (f : ℤ → List X) (sorted : (z : ℤ) → IsStrictlySortedBy c (f z)) (lower : (y z : ℤ) → y <ℤ z → AllBefore c (f y) (f z)) (z : ℤ) (n : ℕ)
        → IsStrictlySortedBy c (flat_map f (from z n))
    unfolding from IsStrictlySortedBy
    rows_sorted f sorted lower z zero = tt
    rows_sorted f sorted lower z (suc n) = rw (flat_map-cons {A = X} f z (from (z +ℤ pos 1) n))
        (sorted_append (f z) _ (sorted z) (rows_sorted f sorted lower (z +ℤ pos 1) n) (later f lower z (z +ℤ pos 1) n (omega (arith, ints))))

    pub row_sorted : (g : ℤ → X) → ((x y : ℤ) → x <ℤ y → c (g x) (g y) ≡ Less) → (x : ℤ) (m : ℕ) → IsStrictlySortedBy c (map g (from x m))
    unfolding IsStrictlySortedBy
    row_sorted g up x m = rw (← single g (from x m)) (rows_sorted (λ y. g y ∷ []) (λ y. (tt, tt)) (λ y z l. ((up y z l, tt), tt)) x m)

    -- rows of elements with two coordinates: the first tells the rows apart, the second the elements of a row
    pub plane_sorted : (at : ℤ → ℤ → X) → ((z x y : ℤ) → x <ℤ y → c (at z x) (at z y) ≡ Less) → ((z w x y : ℤ) → z <ℤ w → c (at z x) (at w y) ≡ Less)
        → (x : ℤ) (m : ℕ) (z : ℤ) (n : ℕ) → IsStrictlySortedBy c (flat_map (λ b. map (at b) (from x m)) (from z n))
    plane_sorted at up lower x m z n = rows_sorted (λ b. map (at b) (from x m)) (λ b. row_sorted (at b) (up b) x m)
        (λ y b l. all_mapped _ (at y) (from x m) (λ a. all_mapped _ (at b) (from x m) (λ d. lower y b a d l))) z n
