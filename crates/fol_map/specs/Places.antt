-- Where on the page a section, a chunk and a block stand. A section is 512 units wide; the first column begins at 768, and the first row at 512.
use Rattle.std.specs.Prelude.{ℕ, ◌+◌, ◌*◌, ◌/◌, ◌^◌, ℤ, pos, unsigned_abs}
use Rattle.std.specs.Int.{int_rem_euclid}
use Rattle.fol_model.specs.declared.places.ChunkPos.{ChunkPos}
use Rattle.fol_model.specs.declared.places.SectionPos.{SectionPos}
use Rattle.fol_model.specs.declared.places.BlockPos.{BlockPos}
use Rattle.fol_model.specs.declared.grids.Grid.{Grid}
use Rattle.fol_model.specs.Geometry.{chunk_of, section_of}
use Rattle.fol_map.specs.Layouts.{cell}
use Rattle.fol_map.specs.declared.layouts.Layout.{Layout}
use Rattle.fol_map.specs.declared.places.Point.{Point}

-- the corner of a section
abbrev pub section_point : Layout → SectionPos → Point
section_point l s = record { x = 768 + 512 * cell l.columns s.x; y = 512 + 512 * cell l.rows s.z }

-- the side of a chunk
abbrev pub chunk_side : Grid → ℕ
chunk_side grid = 512 / 2 ^ grid.shift

-- how far a number is past the last one that n divides
abbrev pub past : ℕ → ℤ → ℕ
past n z = unsigned_abs (int_rem_euclid z (pos n))

-- the corner of a chunk: that of its section, and its place in the section
unfoldable pub chunk_point : Layout → ChunkPos → Point
chunk_point l c = record {
  x = (section_point l (section_of l.grid c)).x + chunk_side l.grid * past (2 ^ l.grid.shift) c.x;
  y = (section_point l (section_of l.grid c)).y + chunk_side l.grid * past (2 ^ l.grid.shift) c.z;
}

-- the middle of a chunk
abbrev pub chunk_middle : Layout → ChunkPos → Point
chunk_middle l c = record { x = (chunk_point l c).x + chunk_side l.grid / 2; y = (chunk_point l c).y + chunk_side l.grid / 2 }

-- the side of a block
abbrev pub block_side : Grid → ℕ
block_side grid = chunk_side grid / 16

-- the middle of a block, seen from above: the corner of its chunk, and its place in the chunk
unfoldable pub block_middle : Layout → BlockPos → Point
block_middle l b = record {
  x = (chunk_point l (chunk_of b)).x + block_side l.grid * past 16 b.x + block_side l.grid / 2;
  y = (chunk_point l (chunk_of b)).y + block_side l.grid * past 16 b.z + block_side l.grid / 2;
}
