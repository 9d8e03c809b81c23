use Rattle.std.proofs.Common.{◌≡◌, ◌++◌}
use Rattle.std.specs.List.{flat_map}
use Rattle.fol_blocks.specs.Cells.{blocks_in}
use Rattle.fol_blocks.proofs.cells.add_to.Given as goal

abbrev pub invariant-loop-cell : goal.invariant-loop-cell
invariant-loop-cell l = l.list.items ++ flat_map (λ v. v) l.cell-iterator ≡ l.fn.list.items ++ blocks_in l.fn.cells.entries
