-- Which bytes are the text of a world and its opening, and which are the text of a script and its commands.
use Rattle.std.specs.Prelude.{ℕ, zero, suc, List, [], ◌∷◌, ◌++◌, map}
use Rattle.std.specs.List.{flat_map}
use Rattle.std.specs.Ordering.{nat_cmp}
use Rattle.std.specs.List.Sorted.{IsPermutation, IsStrictlySortedBy}
use Rattle.fol_model.specs.declared.words.Keyword.TheVariants as keys
use Rattle.fol_model.specs.declared.words.TextKind.{TextKind}
use Rattle.fol_model.specs.declared.words.TextKind.TheVariants as kinds
use Rattle.fol_model.specs.declared.words.Cell.{Cell}
use Rattle.fol_model.specs.declared.words.Cell.TheVariants as cells
use Rattle.fol_model.specs.declared.actions.Action.{Action}
use Rattle.fol_model.specs.declared.entities.Entity.{Entity}
use Rattle.fol_model.specs.declared.grids.Grid.{Grid}
use Rattle.fol_model.specs.declared.openings.BlockAt.{BlockAt}
use Rattle.fol_model.specs.declared.openings.Opening.{Opening}
use Rattle.fol_model.specs.declared.scripts.Command.{Command}
use Rattle.fol_model.specs.declared.scripts.Command.TheVariants as command
use Rattle.fol_model.specs.Universe.{block_cmp}
use Rattle.fol_model.specs.Nesting.{deed_of}
use Rattle.fol_model.specs.ActionCells.{natural_cell, block_cells, chunk_cells, deed_cells}
use Rattle.fol_model.specs.TextCauses.{Row}
use Rattle.fol_model.specs.TextRows.{Spells}

-- ---- the rows of a value

pub data Item : Type 0 where
  block : BlockAt → Item
  entity : Entity → Item

abbrev pub item_row : Item → Row
item_row (block b) = record { key = keys.Block; cells = block_cells b.at ++ natural_cell b.id ∷ [] }
item_row (entity e) = record { key = keys.Entity; cells = natural_cell e.id ∷ block_cells e.at ++ cells.Number e.vx ∷ cells.Number e.vz ∷ [] }

abbrev pub grid_row : Grid → Row
grid_row g = record { key = keys.Grid; cells = map natural_cell (g.shift ∷ g.create ∷ g.merge ∷ g.min ∷ g.num ∷ g.den ∷ []) }

abbrev pub world_rows : ℕ → Grid → List Item → List Row
world_rows version grid items = record { key = keys.World; cells = natural_cell version ∷ [] } ∷ grid_row grid ∷ map item_row items

abbrev pub stored : ℕ → BlockAt → List BlockAt
stored zero b = []
stored (suc n) b = b ∷ []

-- the blocks of these lines; a number 0 stores nothing
abbrev pub blocks_in : Item → List BlockAt
blocks_in (block b) = stored b.id b
blocks_in (entity e) = []

abbrev pub entities_in : Item → List Entity
entities_in (block b) = []
entities_in (entity e) = e ∷ []

-- the lines of the text spell this version, this grid, and blocks and entities in any order, which are those of the opening
pub record IsWorldText (bytes : List ℕ) (o : Opening) : Type 0 where
  pub items : List Item
  pub lines : Spells kinds.World bytes (world_rows o.version o.grid items)
  pub blocks : IsPermutation (flat_map blocks_in items) o.blocks
  pub entities : IsPermutation (flat_map entities_in items) o.entities
  pub blocks_in_order : IsStrictlySortedBy block_cmp (map (λ b. b.at) o.blocks)
  pub entities_in_order : IsStrictlySortedBy nat_cmp (map (λ e. e.id) o.entities)

-- the numbers and words of an action line
abbrev pub action_cells : Action → List Cell
action_cells a = deed_cells (deed_of a)

abbrev pub command_row : Command → Row
command_row (command.Load c) = record { key = keys.Load; cells = chunk_cells c }
command_row (command.Unload c) = record { key = keys.Unload; cells = chunk_cells c }
command_row (command.Post c delay a) = record { key = keys.Post; cells = chunk_cells c ++ natural_cell delay ∷ action_cells a }
command_row (command.Every c delay period count a) = record { key = keys.Every; cells = chunk_cells c ++ natural_cell delay ∷ natural_cell period ∷ natural_cell count ∷ action_cells a }
command_row (command.Run n) = record { key = keys.Run; cells = natural_cell n ∷ [] }
command_row command.End = record { key = keys.End; cells = [] }

abbrev pub script_kind : ℕ → TextKind
script_kind (suc zero) = kinds.ScriptOne
script_kind _ = kinds.ScriptTwo

-- the lines of the text spell these commands, in order
abbrev pub IsScriptText : ℕ → List ℕ → List Command → Type 0
IsScriptText version bytes commands = Spells (script_kind version) bytes (map command_row commands)
