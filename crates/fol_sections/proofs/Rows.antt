-- Places row by row, and what a test keeps of them.
use Rattle.std.proofs.Common.{◌≡◌, ℕ, zero, suc, ◌+◌, ◌-◌, ◌≤◌, refl, ◌∙◌, ap, arith, Bool, true, false, cond, inl, inr, List, [], ◌∷◌, ◌++◌, length, add-zero}
use Rattle.std.specs.Prelude.{ℤ, pos, ◌+ℤ◌, map, flat_map}
use Rattle.std.specs.List.{count_by, filter}
use Rattle.std.proofs.lemmas.List.{map-append}
use Rattle.std.proofs.lemmas.List.Elements.{filter-append}
use Rattle.std.proofs.lemmas.List.Sums.{count_by-le-length, length-filter}
use Rattle.std.proofs.lemmas.Bool.{cases_Bool}
use Rattle.std.proofs.lemmas.Grind.{flat_map-append}
use Rattle.std.proofs.lemmas.List.Concat.{flat_map-cons}
use borrow.Author.Differences.{ints}
use Rattle.fol_model.specs.Universe.{from}
use Rattle.fol_laws.proofs.Coordinates.{count_by-append}
use Rattle.fol_laws.proofs.ListCounts.{count_by-cons}
use Rattle.fol_sections.specs.Rows.{row_of, rows_of}

from-split : (x : ℤ) (i k : ℕ) → from x (i + k) ≡ from x i ++ from (x +ℤ pos i) k
unfolding from
from-split x zero k = let e : x ≡ x +ℤ pos 0 = omega (arith, ints) in let n : zero + k ≡ k = omega arith in λ j. from (e j) (n j)
from-split x (suc i) k =
    let n : suc i + k ≡ suc (i + k) = omega arith in
    let e : (x +ℤ pos 1) +ℤ pos i ≡ x +ℤ pos (suc i) = omega (arith, ints) in
    ap (from x) n ∙ ap (λ xs. x ∷ xs) (from-split (x +ℤ pos 1) i k ∙ ap (λ y. from (x +ℤ pos 1) i ++ from y k) e)

module _ {X : Type 0} where
  pub append-none : (xs : List X) → xs ++ [] ≡ xs
  append-none [] = refl
  append-none (x ∷ xs) = λ i. x ∷ append-none xs i

  -- a test that nothing passes keeps nothing
  pub filter_none : (p : X → Bool) (xs : List X) → count_by p xs ≡ 0 → filter p xs ≡ []
  filter_none p xs h = empty (filter p xs) (length-filter p xs ∙ h)
    where
      empty : (ys : List X) → length ys ≡ 0 → ys ≡ []
      empty [] e = refl
      empty (y ∷ ys) e = absurd (omega arith)

  -- a test that all pass keeps all
  pub filter_whole : (p : X → Bool) (xs : List X) → count_by p xs ≡ length xs → filter p xs ≡ xs
  filter_whole p [] h = refl
  filter_whole p (x ∷ xs) h = elim (cases_Bool (p x)) [
    | inl y ↦ ap (λ b. cond b (x ∷ filter p xs) (filter p xs)) y ∙ ap (λ ys. x ∷ ys) (filter_whole p xs (omega (arith, h, count_by-cons p x xs, ap (λ b. cond {A = ℕ} b 1 0) y)))
    | inr n ↦ absurd (omega (arith, h, count_by-cons p x xs, ap (λ b. cond {A = ℕ} b 1 0) n, count_by-le-length p xs))
  ]

  module _ (at : ℤ → ℤ → X) where
    pub row-none : (x z : ℤ) → row_of at x z 0 ≡ []
    unfolding row_of from
    row-none x z = refl

    pub row-split : (x z : ℤ) (i k : ℕ) → row_of at x z (i + k) ≡ row_of at x z i ++ row_of at (x +ℤ pos i) z k
    unfolding row_of
    row-split x z i k = ap (map (λ a. at a z)) (from-split x i k) ∙ map-append (λ a. at a z) (from x i) (from (x +ℤ pos i) k)

    row-one : (x z : ℤ) → row_of at x z 1 ≡ at x z ∷ []
    unfolding row_of from
    row-one x z = refl

    pub row-more : (x z : ℤ) (n : ℕ) → row_of at x z (n + 1) ≡ row_of at x z n ++ at (x +ℤ pos n) z ∷ []
    row-more x z n = row-split x z n 1 ∙ ap (λ xs. row_of at x z n ++ xs) (row-one (x +ℤ pos n) z)

    pub rows-none : (x z : ℤ) (n : ℕ) → rows_of at x z 0 n ≡ []
    unfolding rows_of from
    rows-none x z n = refl

    pub rows-split : (x z : ℤ) (i k n : ℕ) → rows_of at x z (i + k) n ≡ rows_of at x z i n ++ rows_of at x (z +ℤ pos i) k n
    unfolding rows_of
    rows-split x z i k n = ap (flat_map (λ b. map (λ a. at a b) (from x n))) (from-split z i k) ∙ flat_map-append (λ b. map (λ a. at a b) (from x n)) (from z i) (from (z +ℤ pos i) k)

    rows-one : (x z : ℤ) (n : ℕ) → rows_of at x z 1 n ≡ row_of at x z n
    unfolding rows_of row_of from
    rows-one x z n = flat_map-cons (λ b. map (λ a. at a b) (from x n)) z [] ∙ append-none (map (λ a. at a z) (from x n))

    pub rows-more : (x z : ℤ) (rows n : ℕ) → rows_of at x z (rows + 1) n ≡ rows_of at x z rows n ++ row_of at x (z +ℤ pos rows) n
    rows-more x z rows n = rows-split x z rows 1 n ∙ ap (λ xs. rows_of at x z rows n ++ xs) (rows-one x (z +ℤ pos rows) n)

    pub rows-first : (x z : ℤ) (rows n : ℕ) → rows_of at x z (rows + 1) n ≡ row_of at x z n ++ rows_of at x (z +ℤ pos 1) rows n
    rows-first x z rows n =
        let e : rows + 1 ≡ 1 + rows = omega arith in
        ap (λ m. rows_of at x z m n) e ∙ rows-split x z 1 rows n ∙ ap (λ xs. xs ++ rows_of at x (z +ℤ pos 1) rows n) (rows-one x z n)

    -- ---- what passes a test, and how many
    module _ (p : X → Bool) (x z : ℤ) (n : ℕ) where
      pub filter_yes : p (at (x +ℤ pos n) z) ≡ true → filter p (row_of at x z (n + 1)) ≡ filter p (row_of at x z n) ++ at (x +ℤ pos n) z ∷ []
      filter_yes h = ap (filter p) (row-more x z n) ∙ filter-append p (row_of at x z n) (at (x +ℤ pos n) z ∷ [])
          ∙ ap (λ b. filter p (row_of at x z n) ++ cond b (at (x +ℤ pos n) z ∷ []) []) h

      pub filter_no : p (at (x +ℤ pos n) z) ≡ false → filter p (row_of at x z (n + 1)) ≡ filter p (row_of at x z n)
      filter_no h = ap (filter p) (row-more x z n) ∙ filter-append p (row_of at x z n) (at (x +ℤ pos n) z ∷ [])
          ∙ ap (λ b. filter p (row_of at x z n) ++ cond b (at (x +ℤ pos n) z ∷ []) []) h ∙ append-none (filter p (row_of at x z n))

      pub count_more : count_by p (row_of at x z (n + 1)) ≡ count_by p (row_of at x z n) + cond (p (at (x +ℤ pos n) z)) 1 0
      count_more = ap (count_by p) (row-more x z n) ∙ count_by-append p (row_of at x z n) (at (x +ℤ pos n) z ∷ [])
          ∙ ap (λ k. count_by p (row_of at x z n) + k) (count_by-cons p (at (x +ℤ pos n) z) [] ∙ add-zero (cond (p (at (x +ℤ pos n) z)) 1 0))

    -- a part of a row has no more than the row
    pub row_part : (p : X → Bool) (x z : ℤ) (i n : ℕ) → i ≤ n → count_by p (row_of at x z i) ≤ count_by p (row_of at x z n)
    row_part p x z i n h =
        let k : n ≡ i + (n - i) = omega arith in
        omega (arith, ap (λ m. count_by p (row_of at x z m)) k, ap (count_by p) (row-split x z i (n - i)), count_by-append p (row_of at x z i) (row_of at (x +ℤ pos i) z (n - i)))

    pub rows_part : (p : X → Bool) (x z : ℤ) (i rows n : ℕ) → i ≤ rows → count_by p (rows_of at x z i n) ≤ count_by p (rows_of at x z rows n)
    rows_part p x z i rows n h =
        let k : rows ≡ i + (rows - i) = omega arith in
        omega (arith, ap (λ m. count_by p (rows_of at x z m n)) k, ap (count_by p) (rows-split x z i (rows - i) n), count_by-append p (rows_of at x z i n) (rows_of at x (z +ℤ pos i) (rows - i) n))

    -- where the first rows have all that pass a test, the others have none
    pub rows_whole : (p : X → Bool) (x z : ℤ) (i rows n : ℕ) → i ≤ rows → count_by p (rows_of at x z rows n) ≤ count_by p (rows_of at x z i n) → filter p (rows_of at x z rows n) ≡ filter p (rows_of at x z i n)
    rows_whole p x z i rows n h all =
        let k : rows ≡ i + (rows - i) = omega arith in
        let split = ap (λ m. rows_of at x z m n) k ∙ rows-split x z i (rows - i) n in
        let rest : count_by p (rows_of at x (z +ℤ pos i) (rows - i) n) ≡ 0 = omega (arith, ap (count_by p) split, count_by-append p (rows_of at x z i n) (rows_of at x (z +ℤ pos i) (rows - i) n)) in
        ap (filter p) split ∙ filter-append p (rows_of at x z i n) (rows_of at x (z +ℤ pos i) (rows - i) n)
        ∙ ap (λ xs. filter p (rows_of at x z i n) ++ xs) (filter_none p (rows_of at x (z +ℤ pos i) (rows - i) n) rest) ∙ append-none (filter p (rows_of at x z i n))
