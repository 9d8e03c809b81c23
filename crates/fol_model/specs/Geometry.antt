-- Chunks, sections and blocks: which is in which, their limits, and the distance of two sections.
use Rattle.std.specs.Prelude.{ℕ, pos, ◌-ℤ◌, ◌^◌, Bool, ◌&&◌, List, nat_le, int_le, max, nat_abs}
use Rattle.std.specs.Int.{int_div_euclid}
use Rattle.std.specs.List.{list_any}
use Rattle.std.specs.Ordering.{int_eq}
use Rattle.fol_model.specs.declared.places.ChunkPos.{ChunkPos}
use Rattle.fol_model.specs.declared.places.SectionPos.{SectionPos}
use Rattle.fol_model.specs.declared.places.BlockPos.{BlockPos}
use Rattle.fol_model.specs.declared.grids.Grid.{Grid}

-- the greater of the two coordinate differences
unfoldable pub distance : SectionPos → SectionPos → ℕ
distance a b = max (nat_abs (a.x -ℤ b.x)) (nat_abs (a.z -ℤ b.z))

-- the two are at most r apart
abbrev pub is_within : SectionPos → ℕ → SectionPos → Bool
is_within a r b = nat_le (distance a b) r

-- the section of a chunk: each coordinate divided by 2^shift, rounded down
unfoldable pub section_of : Grid → ChunkPos → SectionPos
section_of grid c = record { x = int_div_euclid c.x (pos (2 ^ grid.shift)); z = int_div_euclid c.z (pos (2 ^ grid.shift)) }

-- the chunk of a block: x and z divided by 16, rounded down
unfoldable pub chunk_of : BlockPos → ChunkPos
chunk_of b = record { x = int_div_euclid b.x (pos 16); z = int_div_euclid b.z (pos 16) }

-- each coordinate is at most 1,000,008 away from 0
unfoldable pub is_section : SectionPos → Bool
is_section s = nat_le (nat_abs s.x) 1000008 && nat_le (nat_abs s.z) 1000008

-- each coordinate is at most 1,000,000 away from 0
unfoldable pub is_chunk : ChunkPos → Bool
is_chunk c = nat_le (nat_abs c.x) 1000000 && nat_le (nat_abs c.z) 1000000

-- the chunk is within the limits, and the height is 0 to 255
unfoldable pub is_block : BlockPos → Bool
is_block b = is_chunk (chunk_of b) && (int_le (pos 0) b.y && int_le b.y (pos 255))

unfoldable pub same_section : SectionPos → SectionPos → Bool
same_section a b = int_eq a.x b.x && int_eq a.z b.z

-- the section is one of the list
abbrev pub is_among : List SectionPos → SectionPos → Bool
is_among sections s = list_any (same_section s) sections

unfoldable pub same_chunk : ChunkPos → ChunkPos → Bool
same_chunk a b = int_eq a.x b.x && int_eq a.z b.z

unfoldable pub same_block : BlockPos → BlockPos → Bool
same_block a b = int_eq a.x b.x && (int_eq a.y b.y && int_eq a.z b.z)
