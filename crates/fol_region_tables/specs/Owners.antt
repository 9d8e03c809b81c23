-- The region of each section, in pages of 32 side by side in a row.
use Rattle.std.specs.Prelude.{◌≡◌, ℕ, ℤ, Bool, true, ◌&&◌, nat_eq, Option, Some, None, List, slice_index_or}
use Rattle.fol_model.specs.declared.places.SectionPos.{SectionPos}
use Rattle.fol_model.specs.Geometry.{is_among}
use Rattle.fol_pages.specs.Pages.{page_at, page_of, place_of}
use Rattle.fol_region_tables.specs.declared.pages.OwnerPage.{OwnerPage}

-- what contracts see of the owners
pub record Owned : Type 0 where
  pub pages : List ((ℤ × ℤ) × OwnerPage)
  -- for how many pages more there is memory
  pub free : ℕ

-- the region of a section in the page in which it lies, or 0
abbrev pub owner_on : Option OwnerPage → SectionPos → ℕ
owner_on None s = 0
owner_on (Some p) s = slice_index_or p.owners (place_of s) 0

-- the region of a section, or 0
unfoldable pub owner_in : List ((ℤ × ℤ) × OwnerPage) → SectionPos → ℕ
owner_in pages s = owner_on (page_at pages (page_of s.x) s.z) s

-- the section lies in that column and row of pages
abbrev pub IsAt : ℤ → ℤ → SectionPos → Type 0
IsAt x z s = (page_of s.x ≡ x) × (s.z ≡ z)

-- all sections of the list lie in that column and row of pages
abbrev pub AreAt : ℤ → ℤ → List SectionPos → Type 0
AreAt x z sections = (s : SectionPos) → is_among sections s ≡ true → IsAt x z s

-- the section is one of the list, and has no region
abbrev pub is_new : (SectionPos → ℕ) → List SectionPos → SectionPos → Bool
is_new owner sections s = is_among sections s && nat_eq (owner s) 0
