use Rattle.fol_text_laws.specs.RowValues.{block_in_cells}
use Rattle.fol_script.proofs.Posts.{block_x_near, block_y_near, block_z_near}
use Rattle.fol_script.proofs.actions.block_at.Goals as goal

pub coordinate_at-requires-clause-low : goal.coordinate_at-requires-clause-low
coordinate_at-requires-clause-low c = (block_x_near (block_in_cells c.args.n c.args.cells.now) c.requires.within).0

pub coordinate_at-requires-clause-high : goal.coordinate_at-requires-clause-high
coordinate_at-requires-clause-high c = (block_x_near (block_in_cells c.args.n c.args.cells.now) c.requires.within).1

pub coordinate_at-requires-2-clause-low : goal.coordinate_at-requires-2-clause-low
coordinate_at-requires-2-clause-low c = (block_y_near (block_in_cells c.args.n c.args.cells.now) c.requires.within).0

pub coordinate_at-requires-2-clause-high : goal.coordinate_at-requires-2-clause-high
coordinate_at-requires-2-clause-high c = (block_y_near (block_in_cells c.args.n c.args.cells.now) c.requires.within).1

pub coordinate_at-requires-3-clause-low : goal.coordinate_at-requires-3-clause-low
coordinate_at-requires-3-clause-low c = (block_z_near (block_in_cells c.args.n c.args.cells.now) c.requires.within).0

pub coordinate_at-requires-3-clause-high : goal.coordinate_at-requires-3-clause-high
coordinate_at-requires-3-clause-high c = (block_z_near (block_in_cells c.args.n c.args.cells.now) c.requires.within).1
