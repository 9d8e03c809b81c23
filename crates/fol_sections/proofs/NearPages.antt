-- How many of the pages near a section are absent.
use Rattle.std.proofs.Common.{◌≡◌, ℕ, ◌+◌, ◌<◌, ◌≤◌, sym, ◌∙◌, arith, Bool, true, false, cond, ◌||◌, List}
use Rattle.std.specs.Prelude.{ℤ, pos, ◌-ℤ◌}
use Rattle.std.proofs.lemmas.Bool.{leb-true}
use Rattle.std.specs.List.{count_by, list_any}
use Rattle.std.proofs.lemmas.List.Sums.{count_by-le-length}
use Rattle.fol_laws.proofs.SortedRows.{in_row, in_rows}
use Rattle.fol_model.specs.declared.places.SectionPos.{SectionPos}
use Rattle.fol_pages.proofs.AbsentPages as absent
use Rattle.fol_pages.proofs.AbsentPages.{is_absent}
use Rattle.fol_pages.specs.Pages.{is_listed}
use Rattle.fol_sections.specs.Pages.{InNear, has_page, page_of}
use Rattle.fol_sections.specs.Places.{is_same}
use Rattle.fol_sections.specs.Rows.{rows_of}
use Rattle.fol_model.specs.Geometry.{distance, is_among}
use Rattle.fol_model.specs.Universe.{square}
use Rattle.fol_laws.proofs.SectionOrder.{square_members}
use Rattle.fol_pages.proofs.PagePlaces.{page_near, row_near}
use Rattle.fol_sections.specs.declared.pages.Page.{Page}
use Rattle.fol_sections.proofs.Lengths.{length-rows}
use Rattle.fol_sections.proofs.PageSteps.{page_self}

abbrev pub pair : ℤ → ℤ → ℤ × ℤ
pair x z = (x, z)

abbrev pub near_from : ℤ → ℤ → List (ℤ × ℤ)
near_from x z = rows_of pair x z 17 2

-- the page of a section that lies in them is one of those
module _ (missing : List SectionPos) (near : InNear missing) (s : SectionPos) (member : is_among missing s ≡ true) where
  at_page : (t : ℤ × ℤ → Bool) → t (page_of s.x, s.z) ≡ true → list_any t (near_from near.x near.z) ≡ true
  unfolding rows_of
  at_page t h =
      let i = near.column s member in
      let j = near.row s member in
      in_rows t _ near.z s.z 17 j.0 j.2 j.1 (in_row t (λ a. pair a s.z) near.x (page_of s.x) 2 i.0 i.2 i.1 h)

  listed : is_listed (near_from near.x near.z) (page_of s.x) s.z ≡ true
  listed = at_page (λ key. is_same (page_of s.x) s.z key.0 key.1) (page_self s)

  pub some_absent : (entries : List ((ℤ × ℤ) × Page)) → has_page entries (page_of s.x) s.z ≡ false → 0 < count_by (is_absent entries) (near_from near.x near.z)
  some_absent = absent.some_absent (page_of s.x) s.z (near_from near.x near.z) listed

-- a section that came takes one page at most, and only one that was absent
module _ (before after : List ((ℤ × ℤ) × Page)) (missing : List SectionPos) (near : InNear missing) (s : SectionPos) (member : is_among missing s ≡ true)
    (pages : (x z : ℤ) → has_page after x z ≡ (is_same (page_of s.x) s.z x z || has_page before x z)) where
  pub room_left : (was is : ℕ) → was ≤ is + cond (has_page before (page_of s.x) s.z) 0 1
      → was + count_by (is_absent after) (near_from near.x near.z) ≤ is + count_by (is_absent before) (near_from near.x near.z)
  room_left = absent.room_left before after (page_of s.x) s.z pages (near_from near.x near.z) (λ e. listed missing near s member)

pub near_few : (entries : List ((ℤ × ℤ) × Page)) (x z : ℤ) → count_by (is_absent entries) (near_from x z) ≤ 34
near_few entries x z = omega (arith, count_by-le-length (is_absent entries) (near_from x z), length-rows pair x z 17 2)

-- the sections within a radius lie in those pages
pub square_near : (s : SectionPos) (r : ℕ) → r ≤ 8 → InNear (square s r)
unfolding distance
square_near s r few = record {
  x = page_of (s.x -ℤ pos r);
  z = s.z -ℤ pos r;
  column = λ q h. let d = within q h in page_near s.x q.x r (omega arith) few;
  row = λ q h. let d = within q h in row_near s.z q.z r (omega arith) few;
}
  where
    within : (q : SectionPos) → is_among (square s r) q ≡ true → distance s q ≤ r
    within q h = leb-true _ _ (sym (square_members s r q) ∙ h)
