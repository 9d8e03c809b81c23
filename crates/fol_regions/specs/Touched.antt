-- The regions that an event on a chunk may touch.
use Rattle.std.specs.Prelude.{ℕ, Bool, ◌&&◌, ◌||◌, nat_lt}
use Rattle.fol_model.specs.declared.places.ChunkPos.{ChunkPos}
use Rattle.fol_model.specs.GridState.{GridState}
use Rattle.fol_laws.specs.LateBegin.{ground, draws_in}

-- r is the region of the chunk's section, or an Add on the chunk now would draw it in: it would be neither Full nor without a wanted section,
-- and r has a section within create plus merge radius of the chunk's own. What r may do is not asked. A Dead region has no section, and 0 is no
-- region
abbrev pub is_touched : GridState → ChunkPos → ℕ → Bool
is_touched g c r = nat_lt 0 r && (ground g r c || draws_in g c r)
