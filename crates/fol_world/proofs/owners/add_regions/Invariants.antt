use Rattle.std.proofs.Common.{◌≡◌, ◌++◌, take}
use Rattle.std.specs.Prelude.{flat_map}
use Rattle.fol_regions.specs.Table.{grid_state}
use Rattle.fol_world.specs.Closings.{owners_of}
use Rattle.fol_world.proofs.owners.add_regions.Given as goal

abbrev pub invariant-loop-id : goal.invariant-loop-id
invariant-loop-id l = l.rows.items ≡ l.initial.rows.items ++ flat_map (owners_of (grid_state l.regions)) (take l.id-index l.live)
