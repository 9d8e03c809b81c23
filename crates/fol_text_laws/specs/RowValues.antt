-- The command and the action whose line has these cells. For the cells of no line they are some command and some action.
use Rattle.std.specs.Prelude.{◌≡◌, true, false, ℕ, ℤ, ◌+◌, nat_abs, List, ◌∷◌, get_or, drop}
use Rattle.fol_model.specs.declared.places.BlockPos.{BlockPos}
use Rattle.fol_model.specs.declared.places.ChunkPos.{ChunkPos}
use Rattle.fol_model.specs.declared.entities.Entity.{Entity}
use Rattle.fol_model.specs.declared.openings.BlockAt.{BlockAt}
use Rattle.fol_model.specs.declared.grids.Grid.{Grid}
use Rattle.fol_model.specs.Texts.{Item, block, entity}
use Rattle.fol_model.specs.declared.words.Keyword.{Keyword}
use Rattle.fol_model.specs.declared.words.Keyword.TheVariants as keys
use Rattle.fol_model.specs.declared.words.Cell.{Cell}
use Rattle.fol_model.specs.declared.words.Cell.TheVariants as cells
use Rattle.fol_model.specs.declared.scripts.Command.{Command}
use Rattle.fol_model.specs.declared.scripts.Command.TheVariants as command
use Rattle.fol_model.specs.Deed.{Deed, set, copy, load, unload, send, post}
use Rattle.fol_model.specs.Nesting.{wrapped, bare, action_of}
use Rattle.fol_model.specs.TextCauses.{Row, cell_number}
use Rattle.fol_model.specs.Limits as limit
use Rattle.fol_model.specs.IsScript.{sends_entity}
use Rattle.std.specs.List.{list_all}

-- the number in the n-th place, from 0
abbrev pub z_at : ℕ → List Cell → ℤ
z_at n cs = cell_number (get_or cs n (cells.Word keys.End))

abbrev pub natural_in : ℕ → List Cell → ℕ
natural_in n cs = nat_abs (z_at n cs)

abbrev pub chunk_in_cells : ℕ → List Cell → ChunkPos
chunk_in_cells n cs = record { x = z_at n cs; z = z_at (n + 1) cs }

abbrev pub block_in_cells : ℕ → List Cell → BlockPos
block_in_cells n cs = record { x = z_at n cs; y = z_at (n + 1) cs; z = z_at (n + 2) cs }

-- the word in the first place
abbrev pub first_key : List Cell → Keyword
first_key (cells.Word key ∷ cs) = key
first_key _ = keys.End

-- what stands in no further post
abbrev pub plain_from : Keyword → List Cell → Deed
plain_from keys.Set cs = bare (set (block_in_cells 1 cs) (natural_in 4 cs))
plain_from keys.Copy cs = bare (copy (block_in_cells 1 cs) (block_in_cells 4 cs))
plain_from keys.Load cs = bare (load (chunk_in_cells 1 cs))
plain_from keys.Send cs = bare (send (natural_in 1 cs) (block_in_cells 2 cs))
plain_from _ cs = bare (unload (chunk_in_cells 1 cs))

abbrev pub deed_from : List Cell → Deed
deed_from (cells.Word keys.Post ∷ x ∷ z ∷ d ∷ cs) = wrapped (post (record { x = cell_number x; z = cell_number z }) (nat_abs (cell_number d))) (deed_from cs)
deed_from cs = plain_from (first_key cs) cs

abbrev pub command_of : Keyword → List Cell → Command
command_of keys.Load cs = command.Load (chunk_in_cells 0 cs)
command_of keys.Unload cs = command.Unload (chunk_in_cells 0 cs)
command_of keys.Post cs = command.Post (chunk_in_cells 0 cs) (natural_in 2 cs) (action_of (deed_from (drop 3 cs)))
command_of keys.Every cs = command.Every (chunk_in_cells 0 cs) (natural_in 2 cs) (natural_in 3 cs) (natural_in 4 cs) (action_of (deed_from (drop 5 cs)))
command_of keys.Run cs = command.Run (natural_in 0 cs)
command_of _ cs = command.End

abbrev pub command_from : Row → Command
command_from r = command_of r.key r.cells

-- within the limits of an action that a line tells, but for the number of posts
pub record InLine (d : Deed) : Type 0 where
  pub deed : limit.is_deed d ≡ true
  pub posts : list_all limit.is_post d.wraps ≡ true
  pub no_arrival : limit.is_arrival d.plain ≡ false
  pub sends : sends_entity d.plain ≡ true

-- the block, the entity and the grid that the cells of their lines tell
abbrev pub block_of : List Cell → BlockAt
block_of cs = record { at = block_in_cells 0 cs; id = natural_in 3 cs }

abbrev pub entity_of : List Cell → Entity
entity_of cs = record { id = natural_in 0 cs; at = block_in_cells 1 cs; vx = z_at 4 cs; vz = z_at 5 cs }

abbrev pub grid_of : List Cell → Grid
grid_of cs = record { shift = natural_in 0 cs; create = natural_in 1 cs; merge = natural_in 2 cs; min = natural_in 3 cs; num = natural_in 4 cs; den = natural_in 5 cs }

abbrev pub item_of : Keyword → List Cell → Item
item_of keys.Block cs = block (block_of cs)
item_of _ cs = entity (entity_of cs)
