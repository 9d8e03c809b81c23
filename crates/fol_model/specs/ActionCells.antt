-- What stands in the places of a line for an action: its words and numbers, from the outermost action in.
use Rattle.std.specs.Prelude.{ℕ, pos, List, [], ◌∷◌, ◌++◌, flat_map}
use Rattle.fol_model.specs.declared.places.ChunkPos.{ChunkPos}
use Rattle.fol_model.specs.declared.places.BlockPos.{BlockPos}
use Rattle.fol_model.specs.declared.words.Cell.{Cell}
use Rattle.fol_model.specs.declared.words.Cell.TheVariants as cells
use Rattle.fol_model.specs.declared.words.Keyword.TheVariants as keys
use Rattle.fol_model.specs.Deed.{Deed, Plain, Wrap, set, copy, load, unload, send, arrive, post, every}

abbrev pub natural_cell : ℕ → Cell
natural_cell n = cells.Number (pos n)

abbrev pub block_cells : BlockPos → List Cell
block_cells b = cells.Number b.x ∷ cells.Number b.y ∷ cells.Number b.z ∷ []

abbrev pub chunk_cells : ChunkPos → List Cell
chunk_cells c = cells.Number c.x ∷ cells.Number c.z ∷ []

abbrev pub plain_cells : Plain → List Cell
plain_cells (set at id) = cells.Word keys.Set ∷ block_cells at ++ natural_cell id ∷ []
plain_cells (copy at to) = cells.Word keys.Copy ∷ block_cells at ++ block_cells to
plain_cells (load c) = cells.Word keys.Load ∷ chunk_cells c
plain_cells (unload c) = cells.Word keys.Unload ∷ chunk_cells c
plain_cells (send entity to) = cells.Word keys.Send ∷ natural_cell entity ∷ block_cells to
plain_cells (arrive e) = cells.Word keys.Arrive ∷ natural_cell e.id ∷ block_cells e.at

abbrev pub wrap_cells : Wrap → List Cell
wrap_cells (post c delay) = cells.Word keys.Post ∷ chunk_cells c ++ natural_cell delay ∷ []
wrap_cells (every period left) = cells.Word keys.Every ∷ natural_cell period ∷ natural_cell left ∷ []

abbrev pub deed_cells : Deed → List Cell
deed_cells d = flat_map wrap_cells d.wraps ++ plain_cells d.plain
