-- The report of a closing as text.
use Rattle.std.specs.Prelude.{ℕ, List, ◌++◌, codes}
use Rattle.fol_model.specs.declared.closings.Closing.{Closing}
use Rattle.fol_model.specs.LineWords.{part}
use Rattle.fol_model.specs.ReportWords.{entry_words, region_words, owner_words, task_words, entity_words, block_row_words}

abbrev pub report_text : Closing → List ℕ
report_text c =
    codes "report 1\n"
    ++ part (codes "events") entry_words c.history
    ++ part (codes "regions") region_words c.regions
    ++ part (codes "owners") owner_words c.owners
    ++ part (codes "tasks") task_words c.tasks
    ++ part (codes "entities") entity_words c.entities
    ++ part (codes "blocks") block_row_words c.blocks
    ++ codes "end\n"
