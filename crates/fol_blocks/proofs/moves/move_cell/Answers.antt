use Rattle.std.proofs.Common.{◌≡◌, sym, ap, arith, length, Some}
use Rattle.std.specs.Prelude.{sum_by}
use Rattle.fol_blocks.specs.Cells.{cell_at}
use Rattle.fol_blocks.specs.Weights.{one_at}
use Rattle.fol_blocks.proofs.CellSums.{chunk_count, chunk_sum, items_none, items_there}
use Rattle.fol_blocks.proofs.CellSteps.{cells_less, left_taken}
use Rattle.fol_blocks.proofs.moves.move_cell.Goals as goal

pub take_in-requires-clause-cell : goal.take_in-requires-clause-cell
take_in-requires-clause-cell c = c.requires.cells.cells c.args.key c.in-Some.cell (sym c.in-Some.ensures.value)

pub take_in-requires-clause-apart : goal.take_in-requires-clause-apart
take_in-requires-clause-apart c = λ at.
    let there : cell_at c.args.cells.now.entries c.args.key ≡ Some c.in-Some.cell = sym c.in-Some.ensures.value in
    omega (arith, c.requires.apart at, chunk_sum c.args.cells.now.entries c.requires.cells c.args.key (one_at at), ap (sum_by (one_at at)) (items_there c.args.cells.now.entries c.args.key c.in-Some.cell there))

pub take_in-requires-clause-room : goal.take_in-requires-clause-room
take_in-requires-clause-room c =
    let there : cell_at c.args.cells.now.entries c.args.key ≡ Some c.in-Some.cell = sym c.in-Some.ensures.value in
    omega (arith, c.requires.room, chunk_count c.args.cells.now.entries c.requires.cells c.args.key, ap length (items_there c.args.cells.now.entries c.args.key c.in-Some.cell there))

pub returns-in-Some-clause-cells : goal.returns-in-Some-clause-cells
returns-in-Some-clause-cells c = cells_less c.args.cells.now.entries _ c.args.key c.requires.cells c.in-Some.ensures.unique c.in-Some.ensures.updates.0

pub returns-in-Some-clause-left : goal.returns-in-Some-clause-left
returns-in-Some-clause-left c = left_taken c.args.cells.now.entries _ c.args.key c.requires.cells c.in-Some.ensures.entries

pub returns-in-Some-clause-moved : goal.returns-in-Some-clause-moved
returns-in-Some-clause-moved c = λ f.
    let there : cell_at c.args.cells.now.entries c.args.key ≡ Some c.in-Some.cell = sym c.in-Some.ensures.value in
    omega (arith, c.take_in.ensures.moved f, chunk_sum c.args.cells.now.entries c.requires.cells c.args.key f, ap (sum_by f) (items_there c.args.cells.now.entries c.args.key c.in-Some.cell there))

pub returns-in-Some-clause-count : goal.returns-in-Some-clause-count
returns-in-Some-clause-count c =
    let there : cell_at c.args.cells.now.entries c.args.key ≡ Some c.in-Some.cell = sym c.in-Some.ensures.value in
    omega (arith, c.take_in.ensures.count, chunk_count c.args.cells.now.entries c.requires.cells c.args.key, ap length (items_there c.args.cells.now.entries c.args.key c.in-Some.cell there))

pub returns-in-None-clause-left : goal.returns-in-None-clause-left
returns-in-None-clause-left c = left_taken c.args.cells.now.entries _ c.args.key c.requires.cells c.in-None.ensures.entries

pub returns-in-None-clause-moved : goal.returns-in-None-clause-moved
returns-in-None-clause-moved c = λ f.
    omega (arith, chunk_sum c.args.cells.now.entries c.requires.cells c.args.key f, ap (sum_by f) (items_none c.args.cells.now.entries c.args.key (sym c.in-None.ensures.value)))

pub returns-in-None-clause-count : goal.returns-in-None-clause-count
returns-in-None-clause-count c =
    omega (arith, chunk_count c.args.cells.now.entries c.requires.cells c.args.key, ap length (items_none c.args.cells.now.entries c.args.key (sym c.in-None.ensures.value)))
