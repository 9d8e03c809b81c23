-- The report of a closing as JSON: one object without spaces, whose members are arrays of the report's lines, in order of their names.
-- No line holds a byte that JSON escapes.
use Rattle.std.specs.Prelude.{ℕ, List, [], ◌∷◌, ◌++◌, flat_map, codes}
use Rattle.fol_model.specs.declared.closings.Closing.{Closing}
use Rattle.fol_model.specs.TextLines.{line_of}
use Rattle.fol_model.specs.LineWords.{Word}
use Rattle.fol_model.specs.ReportWords.{entry_words, region_words, owner_words, task_words, entity_words, block_row_words}

-- between two quotes
abbrev pub in_quotes : List ℕ → List ℕ
in_quotes text = 34 ∷ (text ++ 34 ∷ [])

-- the lines of the rows, each in quotes, with commas between
abbrev pub quoted_lines : {R : Type 0} → (R → List Word) → List R → List ℕ
quoted_lines words [] = []
quoted_lines words (r ∷ rs) = in_quotes (line_of (words r)) ++ flat_map (λ q. 44 ∷ in_quotes (line_of (words q))) rs

abbrev pub json_text : Closing → List ℕ
json_text c =
    codes "{\"blocks\":[" ++ quoted_lines block_row_words c.blocks
    ++ codes "],\"entities\":[" ++ quoted_lines entity_words c.entities
    ++ codes "],\"events\":[" ++ quoted_lines entry_words c.history
    ++ codes "],\"owners\":[" ++ quoted_lines owner_words c.owners
    ++ codes "],\"regions\":[" ++ quoted_lines region_words c.regions
    ++ codes "],\"report\":1,\"tasks\":[" ++ quoted_lines task_words c.tasks
    ++ codes "]}\n"
