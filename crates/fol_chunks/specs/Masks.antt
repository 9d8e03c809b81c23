-- Which chunks are marked in 64 rows of 64 bits, of which the first of all is that of a corner.
use Rattle.std.specs.Prelude.{ℕ, ℤ, pos, ◌+ℤ◌, ◌-ℤ◌, unsigned_abs, nat_eq, Bool, ◌&&◌, List, slice_index_or}
use Rattle.std.specs.Int.{bit_at}
use Rattle.fol_model.specs.declared.places.ChunkPos.{ChunkPos}
use Rattle.fol_chunks.specs.Areas.{is_from_to}

-- one of 64 numbers
abbrev pub is_near : ℤ → ℤ → Bool
is_near first x = is_from_to first (first +ℤ pos 63) x

-- how many numbers lie between
abbrev pub offset : ℤ → ℤ → ℕ
offset first x = unsigned_abs (x -ℤ first)

-- its bit is set
abbrev pub is_marked : ChunkPos → List ℕ → ChunkPos → Bool
is_marked corner rows c = (is_near corner.x c.x && is_near corner.z c.z) && nat_eq (bit_at (slice_index_or rows (offset corner.z c.z) 0) (offset corner.x c.x)) 1
