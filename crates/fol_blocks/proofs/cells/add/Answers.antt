use Rattle.std.proofs.Common.{◌≡◌, ◌+◌, sym, ◌∙◌, ap, arith, length, Some}
use Rattle.std.specs.Prelude.{is_some, sum_by}
use Rattle.std.proofs.lemmas.Result.{on_err_weaker, on_ok_weaker}
use Rattle.fol_blocks.specs.Cells.{blocks_in, cell_at}
use Rattle.fol_blocks.specs.Weights.{one_at}
use Rattle.fol_blocks.proofs.CellSums.{cell_after_add, items_there, len_chunk, place_count}
use Rattle.fol_blocks.proofs.CellSteps.{cells_written, more_written, same_written}
use Rattle.fol_blocks.proofs.cells.add.Goals as goal

pub add-requires-clause-few : goal.add-requires-clause-few
add-requires-clause-few c =
    let there : cell_at c.args.cells.now.entries c.args.key ≡ Some c.in-Some.cell.now = sym c.in-Some.ensures.value in
    omega (
      arith,
      ap length (items_there c.args.cells.now.entries c.args.key c.in-Some.cell.now there),
      len_chunk c.args.cells.now.entries c.requires.cells c.args.key,
      c.requires.few,
    )

pub add-requires-clause-absent : goal.add-requires-clause-absent
add-requires-clause-absent c =
    let there : cell_at c.args.cells.now.entries c.args.key ≡ Some c.in-Some.cell.now = sym c.in-Some.ensures.value in
    ap (sum_by (one_at c.args.block.at)) (sym (items_there c.args.cells.now.entries c.args.key c.in-Some.cell.now there))
    ∙ sym (place_count c.args.cells.now.entries c.requires.cells c.args.key c.args.block.at c.requires.key)
    ∙ c.requires.absent

pub returns-in-Some-clause-cells : goal.returns-in-Some-clause-cells
returns-in-Some-clause-cells c =
    let there : cell_at c.args.cells.now.entries c.args.key ≡ Some c.in-Some.cell.now = sym c.in-Some.ensures.value in
    let w = c.get_mut.follows.holds c.add.new.self in
    let kept = cell_after_add c.args.key c.in-Some.cell.now c.add.new.self (c.requires.cells.cells c.args.key c.in-Some.cell.now there) c.args.block c.add.result c.requires.key c.add.ensures.order c.add.ensures.ok c.add.ensures.err in
    cells_written c.args.cells.now.entries _ c.args.key c.requires.cells c.add.new.self kept w.4 (w.3 (ap is_some there)).0

pub returns-in-Some-clause-ok : goal.returns-in-Some-clause-ok
returns-in-Some-clause-ok c =
    let there : cell_at c.args.cells.now.entries c.args.key ≡ Some c.in-Some.cell.now = sym c.in-Some.ensures.value in
    on_ok_weaker c.add.result (more_written c.args.cells.now.entries _ c.args.key c.in-Some.cell.now c.add.new.self there (c.get_mut.follows.holds c.add.new.self).0 c.args.block) c.add.ensures.ok

pub returns-in-Some-clause-err : goal.returns-in-Some-clause-err
returns-in-Some-clause-err c =
    let there : cell_at c.args.cells.now.entries c.args.key ≡ Some c.in-Some.cell.now = sym c.in-Some.ensures.value in
    on_err_weaker c.add.result (same_written c.args.cells.now.entries _ c.args.key c.in-Some.cell.now c.add.new.self there (c.get_mut.follows.holds c.add.new.self).0) c.add.ensures.err

pub returns-in-None-clause-ok : goal.returns-in-None-clause-ok
returns-in-None-clause-ok c = on_ok_weaker c.open.result (λ h f. h f ∙ ap (λ m. f c.args.block + sum_by f (blocks_in m.entries)) c.get_mut.follows.holds-at-none) c.open.ensures.ok

pub returns-in-None-clause-err : goal.returns-in-None-clause-err
returns-in-None-clause-err c = on_err_weaker c.open.result (λ h f. h f ∙ ap (λ m. sum_by f (blocks_in m.entries)) c.get_mut.follows.holds-at-none) c.open.ensures.err
