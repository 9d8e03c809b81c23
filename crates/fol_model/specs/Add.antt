-- An added hold of a chunk: the sections that it needs come, and the near regions that do not tick become one.
use Rattle.std.specs.Prelude.{ℕ, ◌+◌, Bool, not, ◌&&◌, ◌||◌, nat_eq, nat_lt, if◌then◌else◌}
use Rattle.fol_model.specs.declared.places.TheConstants.{MOST_SECTIONS}
use Rattle.fol_model.specs.Counting.{some_below, least}
use Rattle.fol_model.specs.declared.places.ChunkPos.{ChunkPos}
use Rattle.fol_model.specs.declared.places.SectionPos.{SectionPos}
use Rattle.fol_model.specs.declared.regions.State.{State}
use Rattle.fol_model.specs.declared.regions.State.TheVariants.{Transient, Ready, Dead}
use Rattle.fol_model.specs.Geometry.{is_within, section_of}
use Rattle.fol_model.specs.Universe.{some_section, count_sections}
use Rattle.fol_model.specs.GridState.{GridState, is_ticking, is_present, size, present_count, at_chunk}

-- one more hold, and nothing else
abbrev pub counted : GridState → ChunkPos → GridState
counted g c = record g { holds = at_chunk g.holds c (g.holds c + 1) }

-- a missing section that the chunk needs
abbrev pub is_wanted : GridState → ChunkPos → SectionPos → Bool
is_wanted g c s = not (is_present g s) && is_within (section_of g.grid c) g.grid.create s

unfoldable pub wanted : GridState → ChunkPos → ℕ
wanted g c = count_sections (is_wanted g c)

-- a region with a section within create plus merge radius
unfoldable pub is_near : GridState → ChunkPos → ℕ → Bool
is_near g c r = nat_lt 0 r && some_section (λ s. nat_eq (g.owner s) r && is_within (section_of g.grid c) (g.grid.create + g.grid.merge) s)

abbrev pub is_near_ticking : GridState → ChunkPos → ℕ → Bool
is_near_ticking g c r = is_near g c r && is_ticking (g.state r)

abbrev pub is_near_calm : GridState → ChunkPos → ℕ → Bool
is_near_calm g c r = is_near g c r && not (is_ticking (g.state r))

-- near, not Ticking, and no other such region has more sections
unfoldable pub is_greatest : GridState → ChunkPos → ℕ → Bool
is_greatest g c r = is_near_calm g c r && not (some_below (λ q. is_near_calm g c q && nat_lt (size g r) (size g q)) g.next)

-- the lowest id of the greatest, or the next id where no region is near and not Ticking
unfoldable pub target : GridState → ChunkPos → ℕ
target g c = least (is_greatest g c) g.next

-- the pairs of the target: those of each region that is part of it, and one with each near Ticking region
unfoldable pub target_waits : GridState → ChunkPos → ℕ → Bool
target_waits g c t = is_near_ticking g c t || some_below (λ u. is_near_calm g c u && g.waits u t) g.next

abbrev pub target_state : GridState → ChunkPos → State
target_state g c = if some_below (target_waits g c) g.next then Transient else Ready

-- the wanted sections come, and the near regions that are not Ticking become one
abbrev pub extended : GridState → ChunkPos → GridState
extended g c = record {
  grid = g.grid;
  holds = at_chunk g.holds c (g.holds c + 1);
  owner = λ s. if (is_wanted g c s || is_near_calm g c (g.owner s)) then target g c else g.owner s;
  state = λ r. if nat_eq (target g c) r then target_state g c else (if is_near_calm g c r then Dead else g.state r);
  waits = λ u t. if nat_eq (target g c) u then target_waits g c t else (not (is_near_calm g c u) && g.waits u t);
  next = if nat_eq (target g c) g.next then g.next + 1 else g.next;
}

unfoldable pub is_full : GridState → ChunkPos → Bool
is_full g c = nat_lt MOST_SECTIONS (present_count g + wanted g c)

unfoldable pub add : GridState → ChunkPos → GridState
add g c = if is_full g c then g else (if nat_eq (wanted g c) 0 then counted g c else extended g c)
