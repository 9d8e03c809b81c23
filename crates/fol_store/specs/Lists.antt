-- The lists of what lies in the data of a region.
use Rattle.std.specs.Prelude.{List, map}
use Rattle.fol_model.specs.declared.openings.BlockAt.{BlockAt}
use Rattle.fol_model.specs.declared.entities.Entity.{Entity}
use Rattle.fol_model.specs.declared.closings.TaskRow.{TaskRow}
use Rattle.fol_chunks.specs.Rows.{IsContents}
use Rattle.fol_queues.specs.Distinct.{Distinct}
use Rattle.fol_data.specs.declared.region_data.RegionData.{RegionData}
use Rattle.fol_store.specs.TaskRows.{row_of}

abbrev pub blocks_of : RegionData → List BlockAt
blocks_of r = r.chunks.blocks

abbrev pub entities_of : RegionData → List Entity
entities_of r = r.chunks.entities

abbrev pub tasks_of : RegionData → List TaskRow
tasks_of r = map (row_of r.tick) r.queues.tasks

-- the lists name each thing once
pub record IsListed (r : RegionData) : Type 0 where
  pub contents : IsContents r.chunks.blocks r.chunks.entities
  pub tasks : Distinct r.queues.tasks
