-- The rows that may stand in a text, and the spelling of each.
use Rattle.std.specs.Prelude.{◌≡◌, ℕ, ◌≤ℤ◌, ◌≤◌, ◌+◌, Bool, true, false, cond, ◌||◌, List, [], ◌∷◌, ◌++◌, map, Some, is_none}
use Rattle.std.specs.List.{count_by}
use Rattle.fol_model.specs.declared.words.TextKind.{TextKind}
use Rattle.fol_model.specs.declared.words.Field.{Field}
use Rattle.fol_model.specs.declared.words.Field.TheVariants as fields
use Rattle.fol_model.specs.declared.words.Cell.{Cell}
use Rattle.fol_model.specs.declared.words.Cell.TheVariants as cells
use Rattle.fol_model.specs.TextLines.{line_of, lines, kept}
use Rattle.fol_model.specs.TextForms.{key_spelled, cell_spelled, line_form, action_form}
use Rattle.fol_model.specs.TextCauses.{Row, or_nothing, is_post, is_every, is_out_of_order, is_twice, is_too_much, is_whole}

-- the cells stand in these places, each number within its range
abbrev pub Fits : List Field → List Cell → Type 0
Fits [] [] = Unit {0}
Fits (fields.Number low high ∷ ps) (cells.Number z ∷ cs) = (low ≤ℤ z) × (z ≤ℤ high) × Fits ps cs
Fits (fields.Action ∷ ps) (cells.Word key ∷ cs) = (is_none (action_form key) ≡ false) × Fits (or_nothing (action_form key)) cs
Fits _ _ = ⊥

abbrev pub is_post_cell : Cell → Bool
is_post_cell (cells.Word key) = is_post (Some key)
is_post_cell (cells.Number z) = false

-- the words `post` and `every` of a row
abbrev pub row_wraps : Row → ℕ
row_wraps r = cond (is_post (Some r.key) || is_every (Some r.key)) 1 0 + count_by is_post_cell r.cells

-- the row has a form of this text
pub record IsRow (kind : TextKind) (r : Row) : Type 0 where
  pub is_line_word : is_none (line_form kind r.key) ≡ false
  pub fits : Fits (or_nothing (line_form kind r.key)) r.cells
  pub nest : row_wraps r ≤ 8

-- the one spelling of a row
abbrev pub row_words : Row → List (List ℕ)
row_words r = key_spelled r.key ∷ map cell_spelled r.cells

abbrev pub row_line : Row → List ℕ
row_line r = line_of (row_words r)

-- the rows may stand in this order after these
abbrev pub Follow : TextKind → List Row → List Row → Type 0
Follow kind before [] = is_whole kind before ≡ true
Follow kind before (r ∷ rs) = IsRow kind r × (is_out_of_order kind before r ≡ false) × (is_twice before r ≡ false) × (is_too_much before r ≡ false) × Follow kind (before ++ r ∷ []) rs

-- the lines of the text that are not skipped are the spellings of these rows, in order
pub record Spells (kind : TextKind) (bytes : List ℕ) (rows : List Row) : Type 0 where
  pub lines : kept (lines bytes) ≡ map row_line rows
  pub follow : Follow kind [] rows
