-- The state of the grid: which chunks are held, who owns each section, what each region may do and which region waits for which.
use Rattle.std.specs.Prelude.{ℕ, Bool, true, false, ◌&&◌, nat_eq, nat_lt, if◌then◌else◌}
use Rattle.fol_model.specs.declared.places.ChunkPos.{ChunkPos}
use Rattle.fol_model.specs.declared.places.SectionPos.{SectionPos}
use Rattle.fol_model.specs.declared.grids.Grid.{Grid}
use Rattle.fol_model.specs.declared.regions.State.{State}
use Rattle.fol_model.specs.declared.regions.State.TheVariants.{Ready, Ticking, Dead}
use Rattle.fol_model.specs.Geometry.{is_within, section_of, same_chunk}
use Rattle.fol_model.specs.Universe.{some_chunk, count_sections}

pub record GridState : Type 0 where
  pub grid : Grid
  -- how many holds a chunk has
  pub holds : ChunkPos → ℕ
  -- the region of a section, and 0 where the section is not present
  pub owner : SectionPos → ℕ
  -- Dead also at each number that was not given out
  pub state : ℕ → State
  -- the first region waits to be merged into the second
  pub waits : ℕ → ℕ → Bool
  -- the next id
  pub next : ℕ

abbrev pub is_ready : State → Bool
is_ready Ready = true
is_ready _ = false

abbrev pub is_ticking : State → Bool
is_ticking Ticking = true
is_ticking _ = false

abbrev pub is_dead : State → Bool
is_dead Dead = true
is_dead _ = false

abbrev pub empty : Grid → GridState
empty grid = record { grid = grid; holds = λ c. 0; owner = λ s. 0; state = λ r. Dead; waits = λ u t. false; next = 1 }

abbrev pub is_loaded : GridState → ChunkPos → Bool
is_loaded g c = nat_lt 0 (g.holds c)

abbrev pub is_present : GridState → SectionPos → Bool
is_present g s = nat_lt 0 (g.owner s)

-- the section is within the create radius of a section that holds a loaded chunk
unfoldable pub in_margin : GridState → SectionPos → Bool
in_margin g s = some_chunk (λ c. is_loaded g c && is_within (section_of g.grid c) g.grid.create s)

-- the number of sections of a region
abbrev pub size : GridState → ℕ → ℕ
size g r = count_sections (λ s. nat_eq (g.owner s) r)

abbrev pub present_count : GridState → ℕ
present_count g = count_sections (is_present g)

-- the counts with another count of one chunk
abbrev pub at_chunk : (ChunkPos → ℕ) → ChunkPos → ℕ → ChunkPos → ℕ
at_chunk f c n q = if same_chunk c q then n else f q

-- the states with another state of one region
abbrev pub with_state : (ℕ → State) → ℕ → State → ℕ → State
with_state f r v q = if nat_eq r q then v else f q
