-- The report of a closing as a JSON value.
use Rattle.std.specs.Prelude.{List, map, codes}
use Rattle.serde_json.specs.Data.{Data, number, unsigned, string, array, object, no_members, member}
use Rattle.serde_json.specs.View.{items_of}
use Rattle.fol_model.specs.declared.closings.Closing.{Closing}
use Rattle.fol_model.specs.LineWords.{Word}
use Rattle.fol_model.specs.ReportWords.{entry_words, region_words, owner_words, task_words, entity_words, block_row_words}
use Rattle.fol_report.specs.Spaced.{joined}

-- the lines of the rows as an array of strings
abbrev pub strings : {R : Type 0} → (R → List Word) → List R → Data
strings words rows = array (items_of (map (λ r. string (joined (words r))) rows))

abbrev pub report_data : Closing → Data
report_data c = object (
    member (codes "blocks") (strings block_row_words c.blocks) (
    member (codes "entities") (strings entity_words c.entities) (
    member (codes "events") (strings entry_words c.history) (
    member (codes "owners") (strings owner_words c.owners) (
    member (codes "regions") (strings region_words c.regions) (
    member (codes "report") (number (unsigned 1)) (
    member (codes "tasks") (strings task_words c.tasks)
    no_members)))))))
