use Rattle.fol_regions.specs.Table.{grid_state}
use Rattle.fol_world.specs.Closings.{owners_of}
use Rattle.fol_world.proofs.OwnerRows.{rows_more}
use Rattle.fol_world.proofs.owners.add_regions.Goals as goal

pub loop-id-preserved : goal.loop-id-preserved
loop-id-preserved c =
    rows_more (owners_of (grid_state c.args.regions.now)) c.args.rows.now.items c.loop-id.rows.items c.add_sections.new.rows.items c.args.live.now c.loop-id.id-index 0 c.loop-id-test.true c.loop-id.invariant
    (rw c.sections.ensures at c.in_ok-add_sections.ensures)
