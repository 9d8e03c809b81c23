-- What contracts see of a table of sections: which chunks are held, which sections are present, and what follows from the two.
use Rattle.std.specs.Prelude.{◌≡◌, ℕ, ◌+◌, Bool, false, not, ◌&&◌, ◌||◌, nat_eq, nat_lt, if◌then◌else◌, List, [], ◌∷◌, filter}
use Rattle.std.specs.List.{count_by}
use Rattle.fol_model.specs.declared.places.TheConstants.{MOST_SECTIONS}
use Rattle.fol_model.specs.declared.places.ChunkPos.{ChunkPos}
use Rattle.fol_model.specs.declared.places.SectionPos.{SectionPos}
use Rattle.fol_model.specs.declared.grids.Grid.{Grid}
use Rattle.fol_model.specs.Geometry.{is_within, section_of, same_chunk, same_section, is_among}
use Rattle.fol_model.specs.GridState.{at_chunk}
use Rattle.fol_model.specs.Universe.{all_chunks, some_chunk, count_sections, all_sections}
use Rattle.fol_sections.specs.declared.answers.Added.{Added}
use Rattle.fol_sections.specs.declared.answers.Added.TheVariants.{Counted, Filled, Full}
use Rattle.fol_sections.specs.declared.answers.Removed.{Removed}
use Rattle.fol_sections.specs.declared.answers.Removed.TheVariants.{Gone, Lowered, NotLoaded}

-- a chunk and how many holds it has
pub record Held : Type 0 where
  pub chunk : ChunkPos
  pub count : ℕ

pub record Table : Type 0 where
  pub grid : Grid
  -- in no order that callers may build on
  pub held : List Held
  -- in no order that callers may build on
  pub present : List SectionPos
  -- the sections that the last `add` made, in order
  pub filled : List SectionPos
  -- the sections that the last `remove` left dead, in order; none where an `add` came since
  pub died : List SectionPos
  -- how often `add` may be called before `reserve`
  pub spare : ℕ

-- the count of the first entry of the chunk, or 0
abbrev pub count_in : List Held → ChunkPos → ℕ
count_in [] c = 0
count_in (h ∷ hs) c = if same_chunk h.chunk c then h.count else count_in hs c

-- how many holds each chunk has
unfoldable pub holds_of : Table → ChunkPos → ℕ
holds_of t = count_in t.held

-- which sections are present
unfoldable pub presence_of : Table → SectionPos → Bool
presence_of t = is_among t.present

-- the section holds a loaded chunk
unfoldable pub is_filled_in : Grid → (ChunkPos → ℕ) → SectionPos → Bool
is_filled_in grid holds s = some_chunk (λ c. nat_lt 0 (holds c) && same_section (section_of grid c) s)

-- how many sections that hold a loaded chunk are within the create radius
unfoldable pub neighbours_of : Table → SectionPos → ℕ
neighbours_of t s = count_sections (λ q. is_filled_in t.grid (holds_of t) q && is_within s t.grid.create q)

-- the section is within the create radius of one that holds a loaded chunk
unfoldable pub in_margin_of : Table → SectionPos → Bool
in_margin_of t s = some_chunk (λ c. nat_lt 0 (holds_of t c) && is_within (section_of t.grid c) t.grid.create s)

-- the chunk has a hold and lies in the section
unfoldable pub is_loaded_chunk_of : Table → SectionPos → ChunkPos → Bool
is_loaded_chunk_of t s c = nat_lt 0 (holds_of t c) && same_section (section_of t.grid c) s

-- how many loaded chunks lie in the section
unfoldable pub loaded_count : Table → SectionPos → ℕ
loaded_count t s = count_by (is_loaded_chunk_of t s) all_chunks

-- a missing section that the chunk needs
unfoldable pub is_missing : Table → ChunkPos → SectionPos → Bool
is_missing t c s = not (presence_of t s) && is_within (section_of t.grid c) t.grid.create s

-- how many sections the chunk needs that are missing
unfoldable pub missing_count : Table → ChunkPos → ℕ
missing_count t c = count_sections (is_missing t c)

-- how many sections are present
unfoldable pub present_count : Table → ℕ
present_count t = count_sections (presence_of t)

-- there is no room for the sections that the chunk needs
unfoldable pub is_full_for : Table → ChunkPos → Bool
is_full_for t c = nat_lt MOST_SECTIONS (present_count t + missing_count t c)

-- the answer to an added hold of a chunk
unfoldable pub added : Table → ChunkPos → Added
added t c = if is_full_for t c then Full (present_count t) (missing_count t c) else (if nat_eq (missing_count t c) 0 then Counted else Filled)

-- the answer to a removed hold of a chunk
unfoldable pub removed : Table → ChunkPos → Removed
removed t c = if nat_eq (holds_of t c) 0 then NotLoaded else (if nat_eq (holds_of t c) 1 then Gone else Lowered)

-- what a table is after an added hold of a chunk, where there is room
pub record Adds (old new : Table) (c : ChunkPos) : Type 0 where
  pub holds : holds_of new ≡ at_chunk (holds_of old) c (holds_of old c + 1)
  pub presence : presence_of new ≡ (λ s. presence_of old s || is_missing old c s)
  pub filled : new.filled ≡ filter (is_missing old c) all_sections
  pub spare : new.spare + 1 ≡ old.spare

-- the same holds and the same sections
pub record IsSame (old new : Table) : Type 0 where
  pub grid : new.grid ≡ old.grid
  pub holds : holds_of new ≡ holds_of old
  pub presence : presence_of new ≡ presence_of old

-- nothing is held and nothing is present
pub record IsEmpty (t : Table) : Type 0 where
  pub holds : holds_of t ≡ (λ c. 0)
  pub presence : presence_of t ≡ (λ s. false)
  pub filled : t.filled ≡ []
  pub died : t.died ≡ []
