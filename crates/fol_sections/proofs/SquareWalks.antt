-- What is still to come of a walk over a square.
use Rattle.std.proofs.Common.{◌≡◌, ℕ, ◌+◌, ◌-◌, ◌*◌, ◌<◌, ◌≤◌, sym, ◌∙◌, ap, arith, List, [], ◌++◌, append_assoc, length, length-append}
use Rattle.std.specs.Prelude.{ℤ, pos, ◌+ℤ◌, ◌-ℤ◌}
use Rattle.std.specs.List.{count_by}
use borrow.Author.Differences.{ints}
use Rattle.fol_model.specs.declared.places.SectionPos.{SectionPos}
use Rattle.fol_model.specs.Geometry.{same_section}
use Rattle.fol_model.specs.Universe.{square}
use Rattle.fol_laws.proofs.Coordinates.{count_by-append}
use Rattle.fol_sections.specs.Rows.{row_of, rows_of, section_at}
use Rattle.fol_sections.proofs.Lengths.{length-row}
use Rattle.fol_sections.proofs.Rows.{row-none, row-split, rows-first, rows-none}
use Rattle.fol_sections.proofs.SquareRows.{rows-square}

module _ (x z : ℤ) (side : ℕ) where
  -- the sections of a row from a column on, and those of the rows behind it
  abbrev pub to_come : ℕ → ℕ → List SectionPos
  to_come row column = row_of section_at (x +ℤ pos column) (z +ℤ pos row) (side - column) ++ rows_of section_at x (z +ℤ pos (row + 1)) (side - (row + 1)) side

  row_done : (row : ℕ) → row_of section_at (x +ℤ pos side) (z +ℤ pos row) (side - side) ≡ []
  row_done row = let none : side - side ≡ 0 = omega arith in ap (row_of section_at (x +ℤ pos side) (z +ℤ pos row)) none ∙ row-none section_at (x +ℤ pos side) (z +ℤ pos row)

  -- nothing comes behind the last section of the last row
  pub come_none : (row column : ℕ) → column ≡ side → row + 1 ≡ side → to_come row column ≡ []
  come_none row column e f =
      let last : side - (row + 1) ≡ 0 = omega arith in
      ap (to_come row) e ∙ (λ i. row_done row i ++ rows_of section_at x (z +ℤ pos (row + 1)) (last i) side) ∙ rows-none section_at x (z +ℤ pos (row + 1)) side

  -- behind a row comes the next one
  pub come_next : (row column : ℕ) → column ≡ side → row + 1 < side → to_come (row + 1) 0 ≡ to_come row column
  come_next row column e l =
      let more : side - (row + 1) ≡ (side - (row + 1 + 1)) + 1 = omega arith in
      let start : x +ℤ pos 0 ≡ x = omega (arith, ints) in
      let whole : side - 0 ≡ side = omega arith in
      let below : (z +ℤ pos (row + 1)) +ℤ pos 1 ≡ z +ℤ pos (row + 1 + 1) = omega (arith, ints) in
      sym (
      ap (to_come row) e ∙ ap (λ xs. xs ++ rows_of section_at x (z +ℤ pos (row + 1)) (side - (row + 1)) side) (row_done row)
      ∙ ap (λ n. rows_of section_at x (z +ℤ pos (row + 1)) n side) more ∙ rows-first section_at x (z +ℤ pos (row + 1)) (side - (row + 1 + 1)) side
      ∙ (λ i. row_of section_at (sym start i) (z +ℤ pos (row + 1)) (sym whole i) ++ rows_of section_at x (below i) (side - (row + 1 + 1)) side)
      )

  -- a run is the next of a row
  pub come_run : (row column len : ℕ) → column + len ≤ side → to_come row column ≡ row_of section_at (x +ℤ pos column) (z +ℤ pos row) len ++ to_come row (column + len)
  come_run row column len l =
      let split : side - column ≡ len + (side - (column + len)) = omega arith in
      let behind : (x +ℤ pos column) +ℤ pos len ≡ x +ℤ pos (column + len) = omega (arith, ints) in
      let rows = rows_of section_at x (z +ℤ pos (row + 1)) (side - (row + 1)) side in
      ap (λ xs. xs ++ rows) (ap (row_of section_at (x +ℤ pos column) (z +ℤ pos row)) split ∙ row-split section_at (x +ℤ pos column) (z +ℤ pos row) len (side - (column + len)))
      ∙ append_assoc (row_of section_at (x +ℤ pos column) (z +ℤ pos row) len) (row_of section_at ((x +ℤ pos column) +ℤ pos len) (z +ℤ pos row) (side - (column + len))) rows
      ∙ ap (λ y. row_of section_at (x +ℤ pos column) (z +ℤ pos row) len ++ (row_of section_at y (z +ℤ pos row) (side - (column + len)) ++ rows)) behind

-- first the whole square comes
pub come_square : (s : SectionPos) (r side : ℕ) → side ≡ 2 * r + 1 → to_come (s.x -ℤ pos r) (s.z -ℤ pos r) side 0 0 ≡ square s r
come_square s r side e =
    let x = s.x -ℤ pos r in
    let z = s.z -ℤ pos r in
    let start : x +ℤ pos 0 ≡ x = omega (arith, ints) in
    let top : z +ℤ pos 0 ≡ z = omega (arith, ints) in
    let whole : side - 0 ≡ side = omega arith in
    let first : 0 + 1 ≡ 1 = omega arith in
    let more : (side - 1) + 1 ≡ side = omega arith in
    (λ i. row_of section_at (start i) (top i) (whole i) ++ rows_of section_at x (z +ℤ pos (first i)) (side - first i) side)
    ∙ sym (rows-first section_at x z (side - 1) side) ∙ ap (λ n. rows_of section_at x z n side) more ∙ rows-square s r side (omega arith)

-- a run makes what is to come shorter
pub run_shorter : (x z : ℤ) (len : ℕ) (before after : List SectionPos) → before ≡ row_of section_at x z len ++ after → length before ≡ len + length after
run_shorter x z len before after e = omega (arith, ap length e, length-append (row_of section_at x z len) after, length-row section_at x z len)

-- how often a section comes with a run and behind it
pub run_counts : (q : SectionPos) (x z : ℤ) (len : ℕ) (before after : List SectionPos) → before ≡ row_of section_at x z len ++ after
    → count_by (same_section q) before ≡ count_by (same_section q) (row_of section_at x z len) + count_by (same_section q) after
run_counts q x z len before after e = ap (count_by (same_section q)) e ∙ count_by-append (same_section q) (row_of section_at x z len) after
