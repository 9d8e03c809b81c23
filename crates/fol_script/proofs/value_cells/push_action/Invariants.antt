use Rattle.std.proofs.Common.{◌≡◌, ◌++◌, length}
use Rattle.fol_model.specs.Nesting.{deed_of}
use Rattle.fol_model.specs.ActionCells.{deed_cells}
use Rattle.fol_script.proofs.value_cells.push_action.Given as goal

abbrev pub invariant-loop-inner : goal.invariant-loop-inner
invariant-loop-inner l = l.cells.items ++ deed_cells (deed_of l.inner) ≡ l.fn.cells.items ++ deed_cells (deed_of l.action)

abbrev pub decreases-loop-inner : goal.decreases-loop-inner
decreases-loop-inner l = length (deed_of l.inner).wraps
