-- Which chunks are among those of a list.
use Rattle.std.specs.Prelude.{Bool, List}
use Rattle.std.specs.List.{list_any}
use Rattle.fol_model.specs.declared.places.ChunkPos.{ChunkPos}
use Rattle.fol_model.specs.Geometry.{same_chunk}

-- the chunk is one of these
abbrev pub is_listed : List ChunkPos → ChunkPos → Bool
is_listed chunks c = list_any (same_chunk c) chunks
