-- How long lists of rows are.
use Rattle.std.proofs.Common.{◌≡◌, ℕ, zero, suc, ◌+◌, ◌*◌, ◌≤◌, refl, ◌∙◌, ap, arith, List, [], ◌∷◌, length, length-append}
use Rattle.std.specs.Prelude.{ℤ, pos, neg_ℤ, ◌+ℤ◌, map, flat_map}
use Rattle.std.proofs.Math.Nat.{mul-le-mul}
use Rattle.std.proofs.lemmas.List.{length-map}
use Rattle.std.proofs.lemmas.List.Concat.{flat_map-cons}
use Rattle.fol_model.specs.declared.places.SectionPos.{SectionPos}
use Rattle.fol_model.specs.Universe.{from, square}
use Rattle.fol_sections.specs.Rows.{row_of, rows_of}

length-from : (z : ℤ) (n : ℕ) → length (from z n) ≡ n
unfolding from
length-from z zero = refl
length-from z (suc n) = ap suc (length-from (z +ℤ pos 1) n)

module _ {X : Type 0} (at : ℤ → ℤ → X) where
  length-plane : (xs ys : List ℤ) → length (flat_map (λ b. map (λ a. at a b) xs) ys) ≡ length ys * length xs
  length-plane xs [] = omega arith
  length-plane xs (y ∷ ys) =
      ap length (flat_map-cons {A = X} (λ b. map (λ a. at a b) xs) y ys)
      ∙ omega (
        arith,
        length-append (map (λ a. at a y) xs) (flat_map (λ b. map (λ a. at a b) xs) ys),
        length-map xs (λ a. at a y),
        length-plane xs ys,
      )

  pub length-row : (x z : ℤ) (n : ℕ) → length (row_of at x z n) ≡ n
  unfolding row_of
  length-row x z n = length-map (from x n) (λ a. at a z) ∙ length-from x n

  pub length-rows : (x z : ℤ) (rows n : ℕ) → length (rows_of at x z rows n) ≡ rows * n
  unfolding rows_of
  length-rows x z rows n = length-plane (from x n) (from z rows) ∙ (let a = length-from z rows in let b = length-from x n in λ i. a i * b i)

pub length-area : (s : SectionPos) (r side : ℕ) → side ≡ 2 * r + 1 → length (square s r) ≡ side * side
unfolding square
length-area s r side e =
    let row : r + r + 1 ≡ side = omega arith in
    let a = length-from (s.z +ℤ neg_ℤ (pos r)) (r + r + 1) ∙ row in
    let b = length-from (s.x +ℤ neg_ℤ (pos r)) (r + r + 1) ∙ row in
    length-plane (λ x z. let q : SectionPos = record { x = x; z = z } in q) (from (s.x +ℤ neg_ℤ (pos r)) (r + r + 1)) (from (s.z +ℤ neg_ℤ (pos r)) (r + r + 1)) ∙ (λ i. a i * b i)

pub area_most : (side : ℕ) → side ≤ 17 → side * side ≤ 289
area_most side h = let m = mul-le-mul h h in omega (arith, m)

pub length-square : (s : SectionPos) (r : ℕ) → r ≤ 8 → length (square s r) ≤ 289
length-square s r h = omega (arith, length-area s r (2 * r + 1) refl, area_most (2 * r + 1) (omega arith))
