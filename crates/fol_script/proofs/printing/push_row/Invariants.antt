use Rattle.std.proofs.Common.{◌≡◌, ◌++◌, take}
use Rattle.fol_model.specs.TextForms.{key_spelled}
use Rattle.fol_script.specs.CellText.{cells_text}
use Rattle.fol_script.proofs.printing.push_row.Given as goal

abbrev pub invariant-loop-cell : goal.invariant-loop-cell
invariant-loop-cell l = l.out.items ≡ (l.fn.out.items ++ key_spelled l.fn.key) ++ cells_text (take l.cell-index l.cells)
