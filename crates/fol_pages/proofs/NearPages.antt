-- The sections near a section lie in 34 pages.
use Rattle.std.proofs.Common.{◌≡◌, ℕ, ◌≤◌, refl, arith, Bool, true, List, length}
use Rattle.std.specs.Prelude.{ℤ, pos, ◌-ℤ◌, map, flat_map}
use Rattle.std.proofs.lemmas.Bool.{leb-true}
use Rattle.fol_laws.proofs.SortedRows.{in_row, in_rows}
use Rattle.fol_model.specs.declared.places.SectionPos.{SectionPos}
use Rattle.fol_model.specs.Geometry.{distance, is_within}
use Rattle.fol_model.specs.Universe.{from}
use Rattle.fol_pages.specs.Pages.{LieIn, is_same, page_of}
use Rattle.fol_pages.proofs.PagePlaces.{page_near, row_near, same_self}

abbrev page_row : ℤ → ℤ → List (ℤ × ℤ)
page_row x z = map (λ a. (a, z)) (from x 2)

abbrev near_from : ℤ → ℤ → List (ℤ × ℤ)
near_from x z = flat_map (page_row x) (from z 17)

near_count : (x z : ℤ) → length (near_from x z) ≡ 34
unfolding from
near_count x z = refl

pub lie_in-near : (home : SectionPos) (r : ℕ) → r ≤ 8 → (sections : SectionPos → Bool) → ((s : SectionPos) → sections s ≡ true → is_within home r s ≡ true) → LieIn sections 34
unfolding distance
lie_in-near home r few sections near = record {
  pages = near_from (page_of (home.x -ℤ pos r)) (home.z -ℤ pos r);
  few = omega (arith, near_count (page_of (home.x -ℤ pos r)) (home.z -ℤ pos r));
  within = λ s h.
      let d = leb-true (distance home s) r (near s h) in
      let i = page_near home.x s.x r (omega (arith, d)) few in
      let j = row_near home.z s.z r (omega (arith, d)) few in
      let test : ℤ × ℤ → Bool = λ key. is_same (page_of s.x) s.z key.0 key.1 in
      in_rows test (page_row (page_of (home.x -ℤ pos r))) (home.z -ℤ pos r) s.z 17 j.0 j.2 j.1
      (in_row test (λ a. (a, s.z)) (page_of (home.x -ℤ pos r)) (page_of s.x) 2 i.0 i.2 i.1 (same_self (page_of s.x) s.z));
}
