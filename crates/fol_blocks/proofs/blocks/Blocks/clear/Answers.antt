use Rattle.std.proofs.Common.{arith, length-append, refl}
use Rattle.fol_model.specs.declared.openings.BlockAt.{BlockAt}
use Rattle.fol_blocks.specs.Cells.{blocks_in}
use Rattle.fol_blocks.specs.Kept.{blocks_of}
use Rattle.fol_blocks.specs.declared.blocks.Blocks.{Blocks}
use Rattle.fol_blocks.proofs.Laid.{laid_set}
use Rattle.fol_blocks.proofs.Wholes.{clears_both, sets_clear}
use Rattle.fol_blocks.proofs.blocks.Blocks.clear.Goals as goal

pub returns-clause-cleared : goal.returns-clause-cleared
returns-clause-cleared c =
    clears_both (blocks_in c.args.self.now.cells.entries) c.args.self.now.fresh.items (blocks_in c.clear.new.cells.entries) c.clear-2.new.blocks.items c.args.at c.clear.ensures.cleared c.clear-2.ensures.cleared

pub returns-clause-laid : goal.returns-clause-laid
returns-clause-laid c =
    let none : BlockAt = record { at = c.args.at; id = 0 } in
    let after : Blocks = record { cells = c.clear.new.cells; fresh = c.clear-2.new.blocks; len = c.clear-2.new.len } in
    laid_set c.args.self.now after c.requires.laid c.clear.ensures.cells c.clear-2.ensures.order none (sets_clear (blocks_of c.args.self.now) (blocks_of after) none (returns-clause-cleared c) refl)

pub clear-requires-clause-counted : goal.clear-requires-clause-counted
clear-requires-clause-counted c = omega (arith, c.requires.counted, length-append (blocks_in c.args.self.now.cells.entries) c.args.self.now.fresh.items)

pub clear-requires-2-clause-counted : goal.clear-requires-2-clause-counted
clear-requires-2-clause-counted c =
    omega (
      arith,
      c.requires.counted,
      c.clear.ensures.counted,
      length-append (blocks_in c.args.self.now.cells.entries) c.args.self.now.fresh.items,
      c.args.self.now.fresh.ok,
    )

pub returns-clause-counted : goal.returns-clause-counted
returns-clause-counted c =
    omega (
      arith,
      c.clear.ensures.counted,
      c.clear-2.ensures.counted,
      length-append (blocks_in c.args.self.now.cells.entries) c.args.self.now.fresh.items,
      length-append (blocks_in c.clear.new.cells.entries) c.clear-2.new.blocks.items,
      c.args.self.now.fresh.ok,
      c.clear-2.new.blocks.ok,
    )
