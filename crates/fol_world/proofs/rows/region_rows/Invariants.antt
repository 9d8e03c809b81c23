use Rattle.std.proofs.Common.{◌≡◌, map, take}
use Rattle.fol_regions.specs.Table.{grid_state}
use Rattle.fol_store.specs.Stock.{bag_of}
use Rattle.fol_world.specs.Closings.{row_in}
use Rattle.fol_world.proofs.rows.region_rows.Given as goal

abbrev pub invariant-loop-id : goal.invariant-loop-id
invariant-loop-id l = l.rows.items ≡ map (row_in (grid_state l.regions) (bag_of l.store)) (take l.id-index l.live)
