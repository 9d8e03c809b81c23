use Rattle.std.proofs.Common.{◌∙◌, ap, arith}
use Rattle.std.specs.Prelude.{sum_by}
use Rattle.fol_blocks.specs.Cells.{blocks_in}
use Rattle.fol_blocks.specs.Weights.{one_at}
use Rattle.fol_blocks.proofs.CellSums.{items_none, place_count}
use Rattle.fol_blocks.proofs.Weighing.{length_sum, puts_more}
use Rattle.fol_blocks.proofs.Wholes.{len_same}
use Rattle.fol_blocks.proofs.cells.put_first.Goals as goal

pub returns-in-Ok-clause-put : goal.returns-in-Ok-clause-put
returns-in-Ok-clause-put c = λ t.
    puts_more (blocks_in c.args.cells.now.entries) (blocks_in c.open.new.cells.entries) c.args.block
    (place_count c.args.cells.now.entries c.requires.cells c.args.key c.args.block.at c.requires.key
    ∙ ap (sum_by (one_at c.args.block.at)) (items_none c.args.cells.now.entries c.args.key c.requires.none))
    c.in-Ok.ensures.ok

pub returns-in-Ok-clause-counted : goal.returns-in-Ok-clause-counted
returns-in-Ok-clause-counted c =
    omega (arith, c.in-Ok.ensures.ok (λ x. 1), length_sum (blocks_in c.args.cells.now.entries), length_sum (blocks_in c.open.new.cells.entries))

pub returns-in-Err-clause-counted : goal.returns-in-Err-clause-counted
returns-in-Err-clause-counted c = omega (arith, len_same (blocks_in c.args.cells.now.entries) (blocks_in c.open.new.cells.entries) c.in-Err.ensures.err)
