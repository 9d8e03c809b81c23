use Rattle.std.proofs.Common.{length, ◌+◌, cond}
use Rattle.fol_script.specs.Marks.{left}
use Rattle.fol_script.specs.Marks.{Going}
use Rattle.fol_script.proofs.cells.read_cells.Given as goal

abbrev pub invariant-loop-more : goal.invariant-loop-more
invariant-loop-more l = Going l.marks l.places (left l.more l.rest) l.cells.items l.form (left l.some l.text) l.fn.cells.items

abbrev pub decreases-loop-more : goal.decreases-loop-more
decreases-loop-more l = cond l.more (length l.rest + 1) 0
