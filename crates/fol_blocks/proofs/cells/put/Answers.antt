use Rattle.std.proofs.Common.{◌≡◌, ◌+◌, length, sym, ◌∙◌, ap, arith, Some}
use Rattle.std.specs.Prelude.{is_some, sum_by}
use Rattle.fol_blocks.specs.Cells.{blocks_in, cell_at}
use Rattle.fol_blocks.specs.Weights.{one_at, only, stands_elsewhere}
use Rattle.fol_blocks.proofs.CellSums.{cell_after_put, items_none, items_there, len_chunk, place_count}
use Rattle.fol_blocks.proofs.CellSteps.{cells_written, len_written, puts_written, same_written}
use Rattle.fol_blocks.proofs.cells.put.Goals as goal

pub put-requires-clause-counted : goal.put-requires-clause-counted
put-requires-clause-counted c =
    let there : cell_at c.args.cells.now.entries c.args.key ≡ Some c.in-Some.cell.now = sym c.in-Some.ensures.value in
    omega (
      arith,
      ap length (items_there c.args.cells.now.entries c.args.key c.in-Some.cell.now there),
      len_chunk c.args.cells.now.entries c.requires.cells c.args.key,
      c.requires.counted,
    )

pub returns-in-Some-clause-cells : goal.returns-in-Some-clause-cells
returns-in-Some-clause-cells c =
    let there : cell_at c.args.cells.now.entries c.args.key ≡ Some c.in-Some.cell.now = sym c.in-Some.ensures.value in
    let w = c.get_mut.follows.holds c.put.new.self in
    let kept = cell_after_put c.args.key c.in-Some.cell.now c.put.new.self (c.requires.cells.cells c.args.key c.in-Some.cell.now there) c.args.block c.put.result c.requires.key c.put.ensures.order c.put.ensures.put c.put.ensures.same in
    cells_written c.args.cells.now.entries _ c.args.key c.requires.cells c.put.new.self kept w.4 (w.3 (ap is_some there)).0

pub returns-in-Some-clause-put : goal.returns-in-Some-clause-put
returns-in-Some-clause-put c = λ t.
    let there : cell_at c.args.cells.now.entries c.args.key ≡ Some c.in-Some.cell.now = sym c.in-Some.ensures.value in
    puts_written c.args.cells.now.entries _ c.args.key c.in-Some.cell.now c.put.new.self there (c.get_mut.follows.holds c.put.new.self).0 c.requires.cells c.args.block c.requires.key (c.put.ensures.put t)

pub returns-in-Some-clause-absent : goal.returns-in-Some-clause-absent
returns-in-Some-clause-absent c = λ t.
    let there : cell_at c.args.cells.now.entries c.args.key ≡ Some c.in-Some.cell.now = sym c.in-Some.ensures.value in
    place_count c.args.cells.now.entries c.requires.cells c.args.key c.args.block.at c.requires.key
    ∙ ap (sum_by (one_at c.args.block.at)) (items_there c.args.cells.now.entries c.args.key c.in-Some.cell.now there)
    ∙ c.put.ensures.absent t

pub returns-in-Some-clause-same : goal.returns-in-Some-clause-same
returns-in-Some-clause-same c = λ t.
    let there : cell_at c.args.cells.now.entries c.args.key ≡ Some c.in-Some.cell.now = sym c.in-Some.ensures.value in
    same_written c.args.cells.now.entries _ c.args.key c.in-Some.cell.now c.put.new.self there (c.get_mut.follows.holds c.put.new.self).0 (c.put.ensures.same t)

pub returns-in-Some-clause-counted : goal.returns-in-Some-clause-counted
returns-in-Some-clause-counted c =
    let there : cell_at c.args.cells.now.entries c.args.key ≡ Some c.in-Some.cell.now = sym c.in-Some.ensures.value in
    omega (
      arith,
      len_written c.args.cells.now.entries _ c.args.key c.in-Some.cell.now c.put.new.self there (c.get_mut.follows.holds c.put.new.self).0,
      c.put.ensures.counted,
    )

pub returns-in-None-clause-counted : goal.returns-in-None-clause-counted
returns-in-None-clause-counted c = omega (arith, c.put_first.ensures.counted, ap (λ m. length (blocks_in m.entries)) c.get_mut.follows.holds-at-none)

pub returns-in-None-clause-put : goal.returns-in-None-clause-put
returns-in-None-clause-put c = λ t f.
    c.put_first.ensures.put t f ∙ ap (λ m. f c.args.block + sum_by (only (stands_elsewhere c.args.block.at) f) (blocks_in m.entries)) c.get_mut.follows.holds-at-none

pub returns-in-None-clause-absent : goal.returns-in-None-clause-absent
returns-in-None-clause-absent c = λ t.
    place_count c.args.cells.now.entries c.requires.cells c.args.key c.args.block.at c.requires.key
    ∙ ap (sum_by (one_at c.args.block.at)) (items_none c.args.cells.now.entries c.args.key (sym c.in-None.ensures.value))

pub returns-in-None-clause-same : goal.returns-in-None-clause-same
returns-in-None-clause-same c = λ t f.
    c.put_first.ensures.same t f ∙ ap (λ m. sum_by f (blocks_in m.entries)) c.get_mut.follows.holds-at-none
