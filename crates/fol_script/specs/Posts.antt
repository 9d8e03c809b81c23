-- The posts round an action, as they stand in the cells of a line: four cells each, one post after the other.
use Rattle.std.specs.Prelude.{◌≡◌, ℕ, ◌*◌, ◌<◌, ◌≤◌, Bool, true, false, List, ◌∷◌, length, drop}
use Rattle.fol_model.specs.declared.words.Cell.{Cell}
use Rattle.fol_model.specs.declared.words.Cell.TheVariants as cells
use Rattle.fol_model.specs.declared.words.Keyword.TheVariants as keys
use Rattle.fol_text_laws.specs.RowValues.{deed_from, InLine}

-- a whole post begins here
abbrev pub is_post_at : List Cell → Bool
is_post_at (cells.Word keys.Post ∷ x ∷ z ∷ d ∷ cs) = true
is_post_at _ = false

-- so many posts stand in front, and what follows them is within its limits as they are
pub record IsPosts (n : ℕ) (cs : List Cell) : Type 0 where
  pub room : 4 * n ≤ length cs
  pub before : (k : ℕ) → k < n → (is_post_at (drop (4 * k) cs) ≡ true) × InLine (deed_from (drop (4 * k) cs))
  pub rest : InLine (deed_from (drop (4 * n) cs))
