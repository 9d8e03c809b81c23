-- The text that is printed of a value: the spellings of its rows, each with a line feed behind it, and no skipped line.
use Rattle.std.specs.Prelude.{ℕ, List, [], ◌∷◌, ◌++◌, map}
use Rattle.std.specs.List.{flat_map}
use Rattle.fol_model.specs.declared.openings.Opening.{Opening}
use Rattle.fol_model.specs.declared.scripts.Command.{Command}
use Rattle.fol_model.specs.TextCauses.{Row}
use Rattle.fol_model.specs.TextRows.{row_line}
use Rattle.fol_model.specs.Texts.{Item, block, entity, world_rows, command_row}

abbrev pub line_text : Row → List ℕ
line_text r = row_line r ++ 10 ∷ []

abbrev pub rows_text : List Row → List ℕ
rows_text rows = flat_map line_text rows

-- the blocks and then the entities, each in the order of the opening
abbrev pub items_of : Opening → List Item
items_of o = map block o.blocks ++ map entity o.entities

unfoldable pub world_text : Opening → List ℕ
world_text o = rows_text (world_rows o.version o.grid (items_of o))

unfoldable pub script_text : List Command → List ℕ
script_text commands = rows_text (map command_row commands)
