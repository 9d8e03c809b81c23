use Rattle.fol_script.proofs.ReadWorld.{entity_near}
use Rattle.fol_script.proofs.world_lines.entity_at.Goals as goal

pub natural_at-requires : goal.natural_at-requires
natural_at-requires c = (entity_near c.args.cells.now c.requires).id

pub block_at-requires-clause-within : goal.block_at-requires-clause-within
block_at-requires-clause-within c = (entity_near c.args.cells.now c.requires).at

pub coordinate_at-requires-clause-low : goal.coordinate_at-requires-clause-low
coordinate_at-requires-clause-low c = (entity_near c.args.cells.now c.requires).x_low

pub coordinate_at-requires-clause-high : goal.coordinate_at-requires-clause-high
coordinate_at-requires-clause-high c = (entity_near c.args.cells.now c.requires).x_high

pub coordinate_at-requires-2-clause-low : goal.coordinate_at-requires-2-clause-low
coordinate_at-requires-2-clause-low c = (entity_near c.args.cells.now c.requires).z_low

pub coordinate_at-requires-2-clause-high : goal.coordinate_at-requires-2-clause-high
coordinate_at-requires-2-clause-high c = (entity_near c.args.cells.now c.requires).z_high
