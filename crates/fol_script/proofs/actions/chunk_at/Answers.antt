use Rattle.fol_text_laws.specs.RowValues.{chunk_in_cells}
use Rattle.fol_script.proofs.Posts.{x_near, z_near}
use Rattle.fol_script.proofs.actions.chunk_at.Goals as goal

pub coordinate_at-requires-clause-low : goal.coordinate_at-requires-clause-low
coordinate_at-requires-clause-low c = (x_near (chunk_in_cells c.args.n c.args.cells.now) c.requires.within).0

pub coordinate_at-requires-clause-high : goal.coordinate_at-requires-clause-high
coordinate_at-requires-clause-high c = (x_near (chunk_in_cells c.args.n c.args.cells.now) c.requires.within).1

pub coordinate_at-requires-2-clause-low : goal.coordinate_at-requires-2-clause-low
coordinate_at-requires-2-clause-low c = (z_near (chunk_in_cells c.args.n c.args.cells.now) c.requires.within).0

pub coordinate_at-requires-2-clause-high : goal.coordinate_at-requires-2-clause-high
coordinate_at-requires-2-clause-high c = (z_near (chunk_in_cells c.args.n c.args.cells.now) c.requires.within).1
