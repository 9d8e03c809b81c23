use Rattle.std.proofs.Common.{◌∙◌, arith}
use Rattle.fol_blocks.specs.Cells.{blocks_in}
use Rattle.fol_blocks.proofs.Wholes.{number_first, number_then}
use Rattle.fol_blocks.proofs.blocks.Blocks.number_at.Goals as goal

pub returns-then-id-gt0 : goal.returns-then-id-gt0
returns-then-id-gt0 c =
    c.number_at-id.ensures ∙ number_first (blocks_in c.args.self.now.cells.entries) c.args.self.now.fresh.items c.args.at (c.requires.laid.once c.args.at) (omega arith)

pub returns : goal.returns
returns c =
    (rw c.deref.ensures.value at c.number_at.ensures)
    ∙ number_then (blocks_in c.args.self.now.cells.entries) c.args.self.now.fresh.items c.args.at (c.requires.laid.once c.args.at) (omega arith)
