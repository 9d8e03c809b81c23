-- The two first rows of a world, and what follows them.
use Rattle.std.specs.Prelude.{ℕ, List, [], ◌∷◌, map}
use Rattle.fol_model.specs.declared.grids.Grid.{Grid}
use Rattle.fol_model.specs.declared.words.Keyword.TheVariants as keys
use Rattle.fol_model.specs.TextCauses.{Row}
use Rattle.fol_model.specs.ActionCells.{natural_cell}
use Rattle.fol_model.specs.Texts.{Item, item_row, grid_row}

abbrev pub version_row : ℕ → Row
version_row version = record { key = keys.World; cells = natural_cell version ∷ [] }

-- behind the two first rows and the rows of these items
abbrev pub behind : ℕ → Grid → List Item → List Row
behind version grid done = version_row version ∷ grid_row grid ∷ map item_row done
