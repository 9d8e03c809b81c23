-- Words and lines of texts and reports.
use Rattle.std.specs.Prelude.{ℕ, List, [], ◌∷◌, ◌++◌, flat_map, length, decimal}
use Rattle.fol_model.specs.TextLines.{line_of}

-- a word is a list of bytes
abbrev pub Word : Type 0
Word = List ℕ

-- the words with one space between two, and the end of the line
abbrev pub line : List Word → List ℕ
line ws = line_of ws ++ 10 ∷ []

-- the lines of some rows
abbrev pub lines_of : {R : Type 0} → (R → List Word) → List R → List ℕ
lines_of words rows = flat_map (λ r. line (words r)) rows

-- a line with the count of the rows, and their lines
abbrev pub part : {R : Type 0} → Word → (R → List Word) → List R → List ℕ
part name words rows = line (name ∷ decimal (length rows) ∷ []) ++ lines_of words rows
