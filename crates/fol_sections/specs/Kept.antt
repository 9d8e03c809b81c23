-- What a table of sections keeps: its tables as lists of entries, and how they fit together.
use Rattle.std.specs.Prelude.{◌≡◌, ℕ, ℤ, pos, ◌*◌, ◌<◌, ◌≤◌, ◌^◌, ◌*ℤ◌, nat_abs, Bool, true, ◌&&◌, nat_lt, List, length, map, filter}
use Rattle.std.specs.List.{count_by}
use Rattle.fol_model.specs.declared.places.TheConstants.{MOST_SECTIONS}
use Rattle.fol_model.specs.declared.places.ChunkPos.{ChunkPos}
use Rattle.fol_model.specs.declared.places.SectionPos.{SectionPos}
use Rattle.fol_model.specs.declared.grids.Grid.{Grid}
use Rattle.fol_model.specs.Geometry.{is_chunk, is_section, is_within, section_of, same_section}
use Rattle.fol_model.specs.GridNumbers.{IsGrid}
use Rattle.fol_model.specs.Universe.{all_chunks, all_sections, count_sections}
use Rattle.fol_sections.specs.Places.{count_at}
use Rattle.fol_sections.specs.Pages.{chunks_at, is_here, near_at}
use Rattle.fol_sections.specs.Rows.{chunk_at, rows_of}
use Rattle.fol_sections.specs.Table.{Held}
use Rattle.fol_sections.specs.declared.pages.Page.{Page}

abbrev pub held_in : List ((ℤ × ℤ) × ℕ) → List Held
held_in holds = map (λ e. record { chunk = record { x = e.0.0; z = e.0.1 }; count = e.1 }) holds

abbrev pub present_in : List ((ℤ × ℤ) × Page) → List SectionPos
present_in pages = filter (is_here pages) all_sections

-- the chunk has a hold
abbrev pub is_held : List ((ℤ × ℤ) × ℕ) → ChunkPos → Bool
is_held holds c = nat_lt 0 (count_at holds c)

-- the section's loaded chunks
abbrev pub is_loaded_in : Grid → List ((ℤ × ℤ) × ℕ) → SectionPos → ChunkPos → Bool
is_loaded_in grid holds s c = is_held holds c && same_section (section_of grid c) s

-- the chunks of a section that have a hold, row by row
abbrev pub held_chunks : Grid → List ((ℤ × ℤ) × ℕ) → SectionPos → List ChunkPos
held_chunks grid holds s = filter (is_held holds) (rows_of chunk_at (s.x *ℤ pos (2 ^ grid.shift)) (s.z *ℤ pos (2 ^ grid.shift)) (2 ^ grid.shift) (2 ^ grid.shift))

-- a section with so many loaded chunks: it has as many chunks with a hold, and where it has one it lies within the limits
pub record IsListed (grid : Grid) (holds : List ((ℤ × ℤ) × ℕ)) (loaded : ℕ) (s : SectionPos) : Type 0 where
  pub count : length (held_chunks grid holds s) ≡ loaded
  pub near : 0 < loaded → (nat_abs s.x ≤ 1000008) × (nat_abs s.z ≤ 1000008)

-- the sections near s that hold a loaded chunk
abbrev pub is_filled_near : Grid → List ((ℤ × ℤ) × Page) → SectionPos → SectionPos → Bool
is_filled_near grid pages s q = nat_lt 0 (chunks_at pages q) && is_within s grid.create q

-- each present section has its number of loaded chunks and its number of sections near it that hold one, and the sections that a loaded
-- chunk needs are present
pub record IsKept (grid : Grid) (holds : List ((ℤ × ℤ) × ℕ)) (pages : List ((ℤ × ℤ) × Page)) (present : ℕ) : Type 0 where
  pub numbers : IsGrid grid
  pub chunk_limits : (c : ChunkPos) → is_held holds c ≡ true → is_chunk c ≡ true
  pub section_limits : (s : SectionPos) → is_here pages s ≡ true → is_section s ≡ true
  pub chunks : (s : SectionPos) → chunks_at pages s ≡ count_by (is_loaded_in grid holds s) all_chunks
  pub near : (s : SectionPos) → near_at pages s ≡ count_sections (is_filled_near grid pages s)
  pub margin : (c : ChunkPos) (s : SectionPos) → is_held holds c ≡ true → is_within (section_of grid c) grid.create s ≡ true → is_here pages s ≡ true
  pub count : present ≡ count_sections (is_here pages)
  pub few : present ≤ MOST_SECTIONS

-- there is room for that many holds more
pub record HasRoom (spare in_holds in_pages in_filled in_died : ℕ) : Type 0 where
  pub holds : spare ≤ in_holds
  pub pages : 34 * spare ≤ in_pages
  pub filled : 289 ≤ in_filled
  pub died : 289 ≤ in_died
  pub fits : spare ≤ 4294967295
