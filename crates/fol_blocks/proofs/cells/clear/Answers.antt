use Rattle.std.proofs.Common.{arith}
use Rattle.fol_blocks.specs.Cells.{blocks_in}
use Rattle.fol_blocks.proofs.CellSteps.{cells_less, taken}
use Rattle.fol_blocks.proofs.Weighing.{length_sum}
use Rattle.fol_blocks.proofs.cells.clear.Goals as goal

pub returns-then-take_out-clause-cells : goal.returns-then-take_out-clause-cells
returns-then-take_out-clause-cells c = cells_less c.take_out.new.cells.entries _ c.args.key c.take_out.ensures.cells c.remove.ensures.unique c.remove.ensures.updates.0

pub returns-then-take_out-clause-cleared : goal.returns-then-take_out-clause-cleared
returns-then-take_out-clause-cleared c = λ f.
    let less = rw (c.take_out.ensures.empty c.if-take_out.true) at (taken c.take_out.new.cells.entries _ c.args.key c.remove.ensures.entries f) in
    omega (arith, less, c.take_out.ensures.cleared f)

pub returns-then-take_out-clause-counted : goal.returns-then-take_out-clause-counted
returns-then-take_out-clause-counted c =
    let less = rw (c.take_out.ensures.empty c.if-take_out.true) at (taken c.take_out.new.cells.entries _ c.args.key c.remove.ensures.entries (λ x. 1)) in
    omega (arith, less, c.take_out.ensures.counted, length_sum (blocks_in c.take_out.new.cells.entries), length_sum (blocks_in c.remove.new.self.entries))
