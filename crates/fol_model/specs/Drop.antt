-- A removed hold of a chunk. No section and no region changes until a release.
use Rattle.std.specs.Prelude.{◌-◌}
use Rattle.fol_model.specs.declared.places.ChunkPos.{ChunkPos}
use Rattle.fol_model.specs.GridState.{GridState, at_chunk}

unfoldable pub drop_hold : GridState → ChunkPos → GridState
drop_hold g c = record g { holds = at_chunk g.holds c (g.holds c - 1) }
