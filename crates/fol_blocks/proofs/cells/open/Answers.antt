use Rattle.std.proofs.Common.{◌≡◌, ◌∷◌, [], ◌∙◌, arith, None}
use Rattle.std.specs.List.Sorted.{IsStrictlySortedBy, IsPermutation}
use Rattle.std.proofs.lemmas.List.Sums.{sum_by-cons}
use Rattle.fol_blocks.specs.Cells.{IsCell}
use Rattle.fol_blocks.proofs.CellSums.{cell_more, no_cell}
use Rattle.fol_blocks.proofs.CellSteps.{cells_written, opened}
use Rattle.fol_blocks.proofs.cells.open.Goals as goal

pub returns-in-Ok-clause-cells : goal.returns-in-Ok-clause-cells
unfolding IsStrictlySortedBy
returns-in-Ok-clause-cells c =
    let one : IsCell c.args.key c.in_ok-cell.cell = rw c.in_ok-cell.ensures (cell_more c.args.key [] (no_cell c.args.key) (c.args.block ∷ []) c.args.block c.requires.key (tt, tt) (λ f. sum_by-cons f c.args.block [])) in
    cells_written c.args.cells.now.entries _ c.args.key c.requires.cells c.in_ok-cell.cell one c.in-Ok.ensures.unique c.in-Ok.ensures.updates.0

pub returns-in-Ok-clause-ok : goal.returns-in-Ok-clause-ok
returns-in-Ok-clause-ok c = λ f.
    let none : c.in-Ok.field-0 ≡ None = c.in-Ok.ensures.old ∙ c.requires.absent in
    let m : IsPermutation ((c.args.key, c.in_ok-cell.cell) ∷ c.args.cells.now.entries) c.insert.new.self.entries = rw none at c.in-Ok.ensures.entries in
    let one = rw c.in_ok-cell.ensures at (opened c.args.cells.now.entries _ c.args.key c.in_ok-cell.cell m f) in
    omega (arith, one, sum_by-cons f c.args.block [])
