-- The bytes that a printer adds for the cells of a line.
use Rattle.std.specs.Prelude.{ℕ, List, ◌∷◌}
use Rattle.std.specs.List.{flat_map}
use Rattle.fol_model.specs.declared.words.Cell.{Cell}
use Rattle.fol_model.specs.TextForms.{cell_spelled}

-- a space and then the cell
abbrev pub cell_text : Cell → List ℕ
cell_text c = 32 ∷ cell_spelled c

unfoldable pub cells_text : List Cell → List ℕ
cells_text cs = flat_map cell_text cs
