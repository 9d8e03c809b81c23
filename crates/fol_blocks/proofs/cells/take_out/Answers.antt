use Rattle.std.proofs.Common.{◌≡◌, length, sym, ◌∙◌, ap, arith, Some}
use Rattle.std.specs.Prelude.{is_some, sum_by}
use Rattle.fol_blocks.specs.Cells.{blocks_in, cell_at}
use Rattle.fol_blocks.specs.Weights.{one_at}
use Rattle.fol_blocks.proofs.CellSums.{cell_clear, items_none, items_there, len_chunk, place_count}
use Rattle.fol_blocks.proofs.CellSteps.{cells_written, clears_written, len_written}
use Rattle.fol_blocks.proofs.Weighing.{clears_absent}
use Rattle.fol_blocks.proofs.cells.take_out.Goals as goal

pub clear-requires : goal.clear-requires
clear-requires c =
    let there : cell_at c.args.cells.now.entries c.args.key ≡ Some c.in-Some.cell.now = sym c.in-Some.ensures.value in
    omega (
      arith,
      ap length (items_there c.args.cells.now.entries c.args.key c.in-Some.cell.now there),
      len_chunk c.args.cells.now.entries c.requires.cells c.args.key,
      c.requires.counted,
    )

pub returns-in-Some-clause-counted : goal.returns-in-Some-clause-counted
returns-in-Some-clause-counted c =
    let there : cell_at c.args.cells.now.entries c.args.key ≡ Some c.in-Some.cell.now = sym c.in-Some.ensures.value in
    omega (
      arith,
      len_written c.args.cells.now.entries _ c.args.key c.in-Some.cell.now c.clear.new.self there (c.get_mut.follows.holds c.clear.new.self).0,
      c.clear.ensures.counted,
    )

pub returns-in-None-clause-counted : goal.returns-in-None-clause-counted
returns-in-None-clause-counted c = omega (arith, ap (λ m. length (blocks_in m.entries)) c.get_mut.follows.holds-at-none)

pub returns-in-Some-clause-cells : goal.returns-in-Some-clause-cells
returns-in-Some-clause-cells c =
    let there : cell_at c.args.cells.now.entries c.args.key ≡ Some c.in-Some.cell.now = sym c.in-Some.ensures.value in
    let w = c.get_mut.follows.holds c.clear.new.self in
    let kept = cell_clear c.args.key c.in-Some.cell.now (c.requires.cells.cells c.args.key c.in-Some.cell.now there) c.clear.new.self c.args.at c.clear.ensures.order c.clear.ensures.cleared in
    cells_written c.args.cells.now.entries _ c.args.key c.requires.cells c.clear.new.self kept w.4 (w.3 (ap is_some there)).0

pub returns-in-Some-clause-cleared : goal.returns-in-Some-clause-cleared
returns-in-Some-clause-cleared c =
    let there : cell_at c.args.cells.now.entries c.args.key ≡ Some c.in-Some.cell.now = sym c.in-Some.ensures.value in
    clears_written c.args.cells.now.entries _ c.args.key c.in-Some.cell.now c.clear.new.self there (c.get_mut.follows.holds c.clear.new.self).0 c.requires.cells c.args.at c.requires.key c.clear.ensures.cleared

pub returns-in-None-clause-cleared : goal.returns-in-None-clause-cleared
returns-in-None-clause-cleared c =
    let none : sum_by (one_at c.args.at) (blocks_in c.args.cells.now.entries) ≡ 0 =
    place_count c.args.cells.now.entries c.requires.cells c.args.key c.args.at c.requires.key
    ∙ ap (sum_by (one_at c.args.at)) (items_none c.args.cells.now.entries c.args.key (sym c.in-None.ensures.value)) in
    rw c.get_mut.follows.holds-at-none (clears_absent (blocks_in c.args.cells.now.entries) c.args.at none)
