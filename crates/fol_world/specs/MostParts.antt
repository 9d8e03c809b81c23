-- How many parts a release makes at most.
use Rattle.std.specs.Prelude.{ℕ, ◌+◌, ◌*◌, ◌/◌, min}
use Rattle.fol_model.specs.declared.places.TheConstants.{MOST_SECTIONS}
use Rattle.fol_model.specs.GridState.{GridState, present_count}

-- how many sections are present at most after so many more holds, each of which adds those of a square with 17 a side at most
abbrev pub sections_at_most : GridState → ℕ → ℕ
sections_at_most g holds = min (present_count g + 289 * holds) MOST_SECTIONS

-- how many parts a release makes at most then: each has nine sections or more
unfoldable pub parts_at_most : GridState → ℕ → ℕ
parts_at_most g holds = sections_at_most g holds / 9
