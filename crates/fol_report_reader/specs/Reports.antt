-- Which bytes are a report, and the first line where others are not.
use Rattle.std.specs.Prelude.{◌≡◌, ℕ, ◌+◌, ◌⊎◌, List, ◌++◌, codes}
use Rattle.fol_model.specs.declared.closings.RegionRow.{RegionRow}
use Rattle.fol_model.specs.declared.closings.OwnerRow.{OwnerRow}
use Rattle.fol_model.specs.declared.closings.TaskRow.{TaskRow}
use Rattle.fol_model.specs.declared.closings.EntityRow.{EntityRow}
use Rattle.fol_model.specs.declared.openings.BlockAt.{BlockAt}
use Rattle.fol_model.specs.declared.events.Entry.{Entry}
use Rattle.fol_model.specs.LineWords.{part}
use Rattle.fol_model.specs.ReportWords.{entry_words, region_words, owner_words, task_words, entity_words, block_row_words}
use Rattle.fol_events.specs.Told.{NoHead}
use Rattle.fol_report_reader.specs.Rows.{EntryInRange, RegionInRange, OwnerInRange, TaskInRange, EntityInRange, BlockInRange}
use Rattle.fol_report_reader.specs.Parts.{IsBadFrom}
use Rattle.fol_report_reader.specs.declared.parts.Fault.{Fault}
use Rattle.fol_report_reader.specs.declared.parts.Fault.TheVariants.{Line, NoMemory}

-- ---- from each part on, the first line that is not as it must be

-- the last line is `end`, and nothing follows it
abbrev pub IsBadFoot : List ℕ → ℕ → Type 0
IsBadFoot text l = (l ≡ 1) × (text ≡ codes "end\n" → ⊥)

abbrev pub IsBadFromBlocks : List ℕ → ℕ → Type 0
IsBadFromBlocks text l = IsBadFrom (codes "blocks") block_row_words BlockInRange IsBadFoot text l

abbrev pub IsBadFromEntities : List ℕ → ℕ → Type 0
IsBadFromEntities text l = IsBadFrom (codes "entities") entity_words EntityInRange IsBadFromBlocks text l

abbrev pub IsBadFromTasks : List ℕ → ℕ → Type 0
IsBadFromTasks text l = IsBadFrom (codes "tasks") task_words TaskInRange IsBadFromEntities text l

abbrev pub IsBadFromOwners : List ℕ → ℕ → Type 0
IsBadFromOwners text l = IsBadFrom (codes "owners") owner_words OwnerInRange IsBadFromTasks text l

abbrev pub IsBadFromRegions : List ℕ → ℕ → Type 0
IsBadFromRegions text l = IsBadFrom (codes "regions") region_words RegionInRange IsBadFromOwners text l

abbrev pub IsBadFromEvents : List ℕ → ℕ → Type 0
IsBadFromEvents text l = IsBadFrom (codes "events") entry_words EntryInRange IsBadFromRegions text l

-- the first line of the bytes that is not as it must be in a report
pub record BadBody (bytes : List ℕ) (l : ℕ) : Type 0 where
  pub rest : List ℕ
  pub text : bytes ≡ codes "report 1\n" ++ rest
  pub line : ℕ
  pub place : l ≡ line + 1
  pub bad : IsBadFromEvents rest line

abbrev pub IsBadLine : List ℕ → ℕ → Type 0
IsBadLine bytes l = ((l ≡ 1) × NoHead bytes) ⊎ BadBody bytes l

-- ---- the bytes from each part on

abbrev pub blocks_on : List BlockAt → List ℕ
blocks_on blocks = part (codes "blocks") block_row_words blocks ++ codes "end\n"

abbrev pub entities_on : List EntityRow × List BlockAt → List ℕ
entities_on r = part (codes "entities") entity_words r.0 ++ blocks_on r.1

abbrev pub tasks_on : List TaskRow × (List EntityRow × List BlockAt) → List ℕ
tasks_on r = part (codes "tasks") task_words r.0 ++ entities_on r.1

abbrev pub owners_on : List OwnerRow × (List TaskRow × (List EntityRow × List BlockAt)) → List ℕ
owners_on r = part (codes "owners") owner_words r.0 ++ tasks_on r.1

abbrev pub regions_on : List RegionRow × (List OwnerRow × (List TaskRow × (List EntityRow × List BlockAt))) → List ℕ
regions_on r = part (codes "regions") region_words r.0 ++ owners_on r.1

abbrev pub events_on : List Entry × (List RegionRow × (List OwnerRow × (List TaskRow × (List EntityRow × List BlockAt)))) → List ℕ
events_on r = part (codes "events") entry_words r.0 ++ regions_on r.1

-- the fault of a line behind so many rows and their count
abbrev pub further : ℕ → Fault → Fault
further rows (Line l) = Line (rows + 1 + l)
further rows NoMemory = NoMemory
