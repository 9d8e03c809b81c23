-- Facts on the lists of all sections and all chunks.
use Rattle.std.proofs.Common.{◌≡◌, ℕ, zero, suc, ◌+◌, ◌≤◌, ◌<◌, refl, sym, ◌∙◌, ap, arith, Bool, true, cond, List, [], ◌∷◌, ◌++◌, ◌||◌, inl, inr}
use Rattle.std.specs.Prelude.{ℤ, pos, neg_ℤ, ◌+ℤ◌, ◌-ℤ◌, nat_abs, map, flat_map}
use Rattle.std.specs.List.{count_by, sum_by, list_any}
use Rattle.std.proofs.lemmas.List.Sums.{sum_by-cons}
use Rattle.std.proofs.lemmas.List.Folds.{list_any-append}
use Rattle.std.proofs.lemmas.List.Concat.{flat_map-cons}
use Rattle.std.proofs.lemmas.Bool.{or_left, or_right, or_cases, true≢false}
use borrow.Author.Differences.{ints}
use Rattle.fol_model.specs.Universe.{from, coordinates}

pub list_any-from : (p : ℤ → Bool) (z x : ℤ) (n i : ℕ) → x ≡ z +ℤ pos i → i < n → p x ≡ true → list_any p (from z n) ≡ true
unfolding from
list_any-from p z x zero i e l h = absurd (omega arith)
list_any-from p z x (suc n) zero e l h = let s : x ≡ z = omega (arith, ints) in or_left (p z) _ (rw s at h)
list_any-from p z x (suc n) (suc i) e l h = or_right (p z) _ (list_any-from p (z +ℤ pos 1) x n i (omega (arith, ints)) (omega arith) h)

module _ (f : ℤ → ℕ) where
  sum1 : (z x : ℤ) (n i : ℕ) → x ≡ z +ℤ pos i → i < n → f x ≤ sum_by f (from z n)
  unfolding from
  sum1 z x zero i e l = absurd (omega arith)
  sum1 z x (suc n) zero e l = let s : x ≡ z = omega (arith, ints) in rw s (omega (arith, sum_by-cons f z (from (z +ℤ pos 1) n)))
  sum1 z x (suc n) (suc i) e l = omega (arith, sum_by-cons f z (from (z +ℤ pos 1) n), sum1 (z +ℤ pos 1) x n i (omega (arith, ints)) (omega arith))

  sum2 : (z x y : ℤ) (n i j : ℕ) → x ≡ z +ℤ pos i → y ≡ z +ℤ pos j → i < j → j < n → f x + f y ≤ sum_by f (from z n)
  unfolding from
  sum2 z x y zero i j e d l m = absurd (omega arith)
  sum2 z x y (suc n) i zero e d l m = absurd (omega arith)
  sum2 z x y (suc n) zero (suc j) e d l m = let s : x ≡ z = omega (arith, ints) in rw s (omega (arith, sum_by-cons f z (from (z +ℤ pos 1) n), sum1 (z +ℤ pos 1) y n j (omega (arith, ints)) (omega arith)))
  sum2 z x y (suc n) (suc i) (suc j) e d l m = omega (arith, sum_by-cons f z (from (z +ℤ pos 1) n), sum2 (z +ℤ pos 1) x y n i j (omega (arith, ints)) (omega (arith, ints)) (omega arith) (omega arith))

  pub sum3 : (z x y w : ℤ) (n i j k : ℕ) → x ≡ z +ℤ pos i → y ≡ z +ℤ pos j → w ≡ z +ℤ pos k → i < j → j < k → k < n → f x + f y + f w ≤ sum_by f (from z n)
  unfolding from
  sum3 z x y w zero i j k e d c l m o = absurd (omega arith)
  sum3 z x y w (suc n) i zero k e d c l m o = absurd (omega arith)
  sum3 z x y w (suc n) i j zero e d c l m o = absurd (omega arith)
  sum3 z x y w (suc n) zero (suc j) (suc k) e d c l m o = let s : x ≡ z = omega (arith, ints) in rw s (omega (arith, sum_by-cons f z (from (z +ℤ pos 1) n), sum2 (z +ℤ pos 1) y w n j k (omega (arith, ints)) (omega (arith, ints)) (omega arith) (omega arith)))
  sum3 z x y w (suc n) (suc i) (suc j) (suc k) e d c l m o = omega (arith, sum_by-cons f z (from (z +ℤ pos 1) n), sum3 (z +ℤ pos 1) x y w n i j k (omega (arith, ints)) (omega (arith, ints)) (omega (arith, ints)) (omega arith) (omega arith) (omega arith))

-- the place of a number among the coordinates
place : (z : ℤ) (limit : ℕ) → nat_abs z ≤ limit → (i : ℕ) × (z ≡ neg_ℤ (pos limit) +ℤ pos i) × (i < limit + limit + 1) × (i ≡ nat_abs (z +ℤ pos limit))
place z limit h = (nat_abs (z +ℤ pos limit), omega (arith, ints), omega (arith, ints), refl)

pub list_any-coordinates : (p : ℤ → Bool) (z : ℤ) (limit : ℕ) → nat_abs z ≤ limit → p z ≡ true → list_any p (coordinates limit) ≡ true
unfolding coordinates
list_any-coordinates p z limit l h = let k = place z limit l in list_any-from p _ z _ k.0 k.1 k.2 h

pub list_any-from_gives : (p : ℤ → Bool) (z : ℤ) (n : ℕ) → list_any p (from z n) ≡ true → (x : ℤ) × ((i : ℕ) × (i < n) × (x ≡ z +ℤ pos i)) × (p x ≡ true)
unfolding from
list_any-from_gives p z zero h = absurd (true≢false (sym h))
list_any-from_gives p z (suc n) h = elim (or_cases (p z) (list_any p (from (z +ℤ pos 1) n)) h) [
  | inl e ↦ (z, (0, omega arith, omega (arith, ints)), e)
  | inr e ↦ let x = list_any-from_gives p (z +ℤ pos 1) n e in let i = x.1 in (x.0, (suc i.0, omega (arith, i.1), omega (arith, ints, i.2)), x.2)
]

pub list_any-coordinates_gives : (p : ℤ → Bool) (limit : ℕ) → list_any p (coordinates limit) ≡ true → (z : ℤ) × (nat_abs z ≤ limit) × (p z ≡ true)
unfolding coordinates
list_any-coordinates_gives p limit h = let x = list_any-from_gives p _ _ h in let i = x.1 in (x.0, omega (arith, ints, i.1, i.2), x.2)

-- three in a row
pub sum-coordinates : (f : ℤ → ℕ) (z : ℤ) (limit m : ℕ) → nat_abs (z -ℤ pos 1) ≤ limit → nat_abs z ≤ limit → nat_abs (z +ℤ pos 1) ≤ limit
    → m ≤ f (z -ℤ pos 1) → m ≤ f z → m ≤ f (z +ℤ pos 1) → m + m + m ≤ sum_by f (coordinates limit)
unfolding coordinates
sum-coordinates f z limit m a b c x y w =
    let i = place (z -ℤ pos 1) limit a in let j = place z limit b in let k = place (z +ℤ pos 1) limit c in
    let ij : i.0 < j.0 = omega (arith, ints, i.3, j.3) in
    let jk : j.0 < k.0 = omega (arith, ints, j.3, k.3) in
    let s = sum3 f _ (z -ℤ pos 1) z (z +ℤ pos 1) _ i.0 j.0 k.0 i.1 j.1 k.1 ij jk k.2 in omega arith

pub count_by-append : {Y : Type 0} (p : Y → Bool) (xs ys : List Y) → count_by p (xs ++ ys) ≡ count_by p xs + count_by p ys
count_by-append p [] ys = omega arith
count_by-append p (x ∷ xs) ys = omega (arith, sum_by-cons (λ x. cond (p x) 1 0) x xs, sum_by-cons (λ x. cond (p x) 1 0) x (xs ++ ys), count_by-append p xs ys)

module _ {X Y : Type 0} (p : Y → Bool) where
  pub list_any-map : (f : X → Y) (xs : List X) → list_any p (map f xs) ≡ list_any (λ x. p (f x)) xs
  list_any-map f [] = refl
  list_any-map f (x ∷ xs) = ap (λ b. p (f x) || b) (list_any-map f xs)

  pub list_any-flat_map : (f : X → List Y) (xs : List X) → list_any p (flat_map f xs) ≡ list_any (λ x. list_any p (f x)) xs
  list_any-flat_map f [] = refl
  list_any-flat_map f (x ∷ xs) = ap (list_any p) (flat_map-cons f x xs) ∙ list_any-append p (f x) (flat_map f xs) ∙ ap (λ b. list_any p (f x) || b) (list_any-flat_map f xs)

  pub count_by-map : (f : X → Y) (xs : List X) → count_by p (map f xs) ≡ count_by (λ x. p (f x)) xs
  count_by-map f [] = refl
  count_by-map f (x ∷ xs) = omega (arith, sum_by-cons (λ x. cond (p x) 1 0) (f x) (map f xs), sum_by-cons (λ x. cond (p (f x)) 1 0) x xs, count_by-map f xs)

  pub count_by-flat_map : (f : X → List Y) (xs : List X) → count_by p (flat_map f xs) ≡ sum_by (λ x. count_by p (f x)) xs
  count_by-flat_map f [] = refl
  count_by-flat_map f (x ∷ xs) = ap (count_by p) (flat_map-cons f x xs) ∙ omega (arith, count_by-append p (f x) (flat_map f xs), sum_by-cons (λ x. count_by p (f x)) x xs, count_by-flat_map f xs)
