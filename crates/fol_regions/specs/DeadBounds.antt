-- How many dead sections a region has, and numbers that these are at most.
use Rattle.std.specs.Prelude.{ℕ, ◌%◌, ◌<◌, ◌≤◌, not, ◌&&◌, nat_eq, if◌then◌else◌, List}
use Rattle.std.specs.List.{slice_index_or}
use Rattle.fol_model.specs.declared.places.TheConstants.{MOST_SECTIONS}
use Rattle.fol_model.specs.GridState.{GridState, in_margin}
use Rattle.fol_model.specs.Universe.{count_sections}
use Rattle.fol_regions.specs.declared.dead_bounds.Known.{Known}

-- the sections of a region that are in no margin
unfoldable pub dead_count : GridState → ℕ → ℕ
dead_count g r = count_sections (λ s. nat_eq (g.owner s) r && not (in_margin g s))

-- each region has at most so many dead sections
pub record BoundsDead (g : GridState) (most : ℕ → ℕ) : Type 0 where
  pub at : (r : ℕ) → 0 < r → dead_count g r ≤ most r

-- where the number of a region is
abbrev pub place : ℕ → ℕ
place r = r % MOST_SECTIONS

-- the number of a region that something is known of; 16,384 where it is known of another
abbrev pub most_of : ℕ → Known → ℕ
most_of r known = if nat_eq known.id r then known.most else MOST_SECTIONS

-- the number of a region
unfoldable pub most_in : List Known → ℕ → ℕ
most_in known r = most_of r (slice_index_or known (place r) (record { id = 0; most = MOST_SECTIONS }))
