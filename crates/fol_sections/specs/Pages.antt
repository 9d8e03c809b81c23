-- Sections by page: 32 of them side by side in a row.
use Rattle.std.specs.Prelude.{◌≡◌, ℕ, ℤ, pos, ◌+◌, ◌-◌, ◌<◌, ◌+ℤ◌, Bool, true, Option, None, List, is_some, slice_index_or}
use Rattle.std.specs.Option.{option_and_then, unwrap_or}
use Rattle.fol_model.specs.declared.places.SectionPos.{SectionPos}
use Rattle.fol_model.specs.Geometry.{is_among}
pub use Rattle.fol_pages.specs.Pages.{IsOnPage, page_of}
unfoldable pub use Rattle.fol_pages.specs.Pages.{has_page, page_at, place_of}
use Rattle.fol_sections.specs.declared.pages.Counts.{Counts}
use Rattle.fol_sections.specs.declared.pages.Page.{Page}

-- a section with no loaded chunk near it
abbrev pub no_counts : Counts
no_counts = record { loaded = 0; near = 0 }

-- what is kept of a section, present or not, with one section more near it that holds a loaded chunk
abbrev pub reached : Option Counts → Counts
reached kept = record { loaded = (unwrap_or kept no_counts).loaded; near = (unwrap_or kept no_counts).near + 1 }

-- what is kept of a section with one section less near it that holds a loaded chunk
abbrev pub left : Counts → Counts
left counts = record { loaded = counts.loaded; near = counts.near - 1 }

-- what a page keeps of a section that lies in it, if that is present
abbrev pub counts_on : Page → SectionPos → Option Counts
counts_on p s = slice_index_or p.sections (place_of s) None

-- the loaded chunks of a section that lies in the page, 0 where it is not present
abbrev pub chunks_on : Page → SectionPos → ℕ
chunks_on p s = (unwrap_or (counts_on p s) no_counts).loaded

-- the sections with a loaded chunk near a section that lies in the page, 0 where it is not present
abbrev pub near_on : Page → SectionPos → ℕ
near_on p s = (unwrap_or (counts_on p s) no_counts).near

-- the page keeps the same sections, with as many loaded chunks
pub record KeepsOthers (old new : Page) : Type 0 where
  pub here : (q : SectionPos) → is_some (counts_on new q) ≡ is_some (counts_on old q)
  pub chunks : (q : SectionPos) → (unwrap_or (counts_on new q) no_counts).loaded ≡ (unwrap_or (counts_on old q) no_counts).loaded

-- what is kept of a section, if it is present
unfoldable pub counts_at : List ((ℤ × ℤ) × Page) → SectionPos → Option Counts
counts_at entries s = option_and_then (λ p. counts_on p s) (page_at entries (page_of s.x) s.z)

-- the section is present
unfoldable pub is_here : List ((ℤ × ℤ) × Page) → SectionPos → Bool
is_here entries s = is_some (counts_at entries s)

-- the loaded chunks of a section, 0 where it is not present
unfoldable pub chunks_at : List ((ℤ × ℤ) × Page) → SectionPos → ℕ
chunks_at entries s = (unwrap_or (counts_at entries s) no_counts).loaded

-- the sections with a loaded chunk near a section, 0 where it is not present
unfoldable pub near_at : List ((ℤ × ℤ) × Page) → SectionPos → ℕ
near_at entries s = (unwrap_or (counts_at entries s) no_counts).near

-- the sections lie in two columns of pages and seventeen rows
pub record InNear (sections : List SectionPos) : Type 0 where
  pub x : ℤ
  pub z : ℤ
  pub column : (s : SectionPos) → is_among sections s ≡ true → (i : ℕ) × (i < 2) × (page_of s.x ≡ x +ℤ pos i)
  pub row : (s : SectionPos) → is_among sections s ≡ true → (i : ℕ) × (i < 17) × (s.z ≡ z +ℤ pos i)
