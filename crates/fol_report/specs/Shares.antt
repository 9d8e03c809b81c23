-- The shares of a report: what stands before the lines of the history, these, and what stands behind them.
use Rattle.std.specs.Prelude.{ℕ, List, [], ◌∷◌, ◌++◌, codes, decimal, length, Result, Ok, Err, Vec}
use Rattle.fol_model.specs.declared.closings.Closing.{Closing}
use Rattle.fol_model.specs.LineWords.{line, part}
use Rattle.fol_model.specs.ReportWords.{region_words, owner_words, task_words, entity_words, block_row_words}

abbrev pub head_text : Closing → List ℕ
head_text c = codes "report 1\n" ++ line (codes "events" ∷ decimal (length c.history) ∷ [])

abbrev pub foot_text : Closing → List ℕ
foot_text c =
    part (codes "regions") region_words c.regions
    ++ part (codes "owners") owner_words c.owners
    ++ part (codes "tasks") task_words c.tasks
    ++ part (codes "entities") entity_words c.entities
    ++ part (codes "blocks") block_row_words c.blocks
    ++ codes "end\n"

-- the text of a share that was made
abbrev pub text_of : {A E : Type 0} → Result (Vec ℕ A) E → List ℕ
text_of (Ok text) = text.items
text_of (Err e) = []
