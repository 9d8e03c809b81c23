-- Sections side by side in one page.
use Rattle.std.proofs.Common.{◌≡◌, ℕ, ◌+◌, ◌<◌, ◌≤◌, arith}
use Rattle.std.specs.Prelude.{pos, ◌+ℤ◌, nat_abs}
use Rattle.std.specs.Int.{int_rem_euclid}
use borrow.Author.Differences.{ints}
use Rattle.fol_model.specs.declared.places.SectionPos.{SectionPos}
use Rattle.fol_pages.specs.Pages.{page_of, place_of}
use Rattle.fol_pages.proofs.PagePlaces.{in_page}
use Rattle.fol_pages.proofs.Quotients.{quotient_of_row}

-- the run ends in the page
pub run_end : (s : SectionPos) (len : ℕ) → nat_abs (int_rem_euclid s.x (pos 32)) + len ≤ 32 → place_of s + len ≤ 32
unfolding place_of
run_end s len run = run

-- a section of the run lies in the page, at the next place
module _ (s : SectionPos) (len : ℕ) (run : nat_abs (int_rem_euclid s.x (pos 32)) + len ≤ 32) (i : ℕ) (l : i < len) where
  pub run_page : page_of (s.x +ℤ pos i) ≡ page_of s.x
  run_page = let a = in_page s.x in quotient_of_row (s.x +ℤ pos i) (page_of s.x) 32 (nat_abs (int_rem_euclid s.x (pos 32)) + i) (omega arith) (omega (arith, ints, a.0))

  abbrev behind : SectionPos
  behind = record { x = s.x +ℤ pos i; z = s.z }

  pub run_place : place_of behind ≡ place_of s + i
  unfolding place_of
  run_place =
      let a = in_page s.x in
      let b = rw run_page at (in_page (s.x +ℤ pos i)).0 in
      let r : nat_abs (int_rem_euclid (s.x +ℤ pos i) (pos 32)) ≡ nat_abs (int_rem_euclid s.x (pos 32)) + i = omega (arith, ints, a.0, b) in
      omega (arith, r)
