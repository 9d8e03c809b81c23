-- The rules that every state of the grid keeps.
use Rattle.std.specs.Prelude.{ℕ, ◌≡◌, ◌≢◌, ◌≤◌, ◌<◌, IsTrue, ◌||◌, nat_eq}
use Rattle.fol_model.specs.declared.places.TheConstants.{MOST_SECTIONS}
use Rattle.fol_model.specs.declared.places.ChunkPos.{ChunkPos}
use Rattle.fol_model.specs.declared.places.SectionPos.{SectionPos}
use Rattle.fol_model.specs.declared.regions.State.TheVariants.{Transient, Ready, Ticking, Dead}
use Rattle.fol_model.specs.Geometry.{distance, section_of, is_section, is_chunk}
use Rattle.fol_model.specs.Universe.{some_section}
use Rattle.fol_model.specs.Counting.{some_below}
use Rattle.fol_model.specs.GridState.{GridState, size, present_count}

pub record Rules (g : GridState) : Type 0 where
  -- a present section is within the limits, and so is a chunk that is held
  pub section_limits : (s : SectionPos) → 0 < g.owner s → IsTrue (is_section s)
  pub chunk_limits : (c : ChunkPos) → 0 < g.holds c → IsTrue (is_chunk c)
  -- the region of a present section is not Dead, and a region that is not Dead has a section
  pub owner_lives : (s : SectionPos) → 0 < g.owner s → g.state (g.owner s) ≢ Dead
  pub has_section : (r : ℕ) → g.state r ≢ Dead → IsTrue (some_section (λ s. nat_eq (g.owner s) r))
  pub count : present_count g ≤ MOST_SECTIONS
  -- every section of the margin is present
  pub margin : (c : ChunkPos) (s : SectionPos) → 0 < g.holds c → distance (section_of g.grid c) s ≤ g.grid.create → 0 < g.owner s
  -- sections within the merge radius are in one region, or their regions are a pair
  pub together : (a b : SectionPos) → 0 < g.owner a → 0 < g.owner b → distance a b ≤ g.grid.merge
      → IsTrue (nat_eq (g.owner a) (g.owner b) || (g.waits (g.owner a) (g.owner b) || g.waits (g.owner b) (g.owner a)))
  -- a pair goes from a Transient region to a Ticking one, and each Transient region has one
  pub waiting : (u t : ℕ) → IsTrue (g.waits u t) → g.state u ≡ Transient
  pub awaited : (u t : ℕ) → IsTrue (g.waits u t) → g.state t ≡ Ticking
  pub has_pair : (u : ℕ) → g.state u ≡ Transient → IsTrue (some_below (g.waits u) g.next)
  -- the ids that were given out are 1 and up, below the next id
  pub given : (r : ℕ) → g.state r ≢ Dead → 0 < r
  pub below_next : (r : ℕ) → g.state r ≢ Dead → r < g.next
  pub next_id : 0 < g.next
  -- a Ready or Ticking region has at least nine sections
  pub nine_ready : (r : ℕ) → g.state r ≡ Ready → 9 ≤ size g r
  pub nine_ticking : (r : ℕ) → g.state r ≡ Ticking → 9 ≤ size g r
