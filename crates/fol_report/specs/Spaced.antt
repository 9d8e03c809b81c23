-- Words in a row, as they are put one after another.
use Rattle.std.specs.Prelude.{ℕ, List, [], ◌∷◌, ◌++◌, flat_map}
use Rattle.fol_model.specs.LineWords.{Word}

-- each word with a space before it
abbrev pub spaced : List Word → List ℕ
spaced = flat_map (λ w. 32 ∷ w)

-- the words with one space between two: what `line_of` gives, first word first
abbrev pub joined : List Word → List ℕ
joined [] = []
joined (w ∷ ws) = w ++ spaced ws

-- the lines of some rows, each with this mark behind it
abbrev pub marked : {R : Type 0} → List ℕ → (R → List Word) → List R → List ℕ
marked mark words rows = flat_map (λ r. joined (words r) ++ mark) rows

-- the lines of some rows, each with its end
abbrev pub joined_lines : {R : Type 0} → (R → List Word) → List R → List ℕ
joined_lines words rows = marked (10 ∷ []) words rows
