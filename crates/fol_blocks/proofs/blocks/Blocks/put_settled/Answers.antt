use Rattle.std.proofs.Common.{arith, length-append}
use Rattle.fol_blocks.specs.Cells.{blocks_in}
use Rattle.fol_blocks.specs.Kept.{blocks_of}
use Rattle.fol_blocks.specs.declared.blocks.Blocks.{Blocks}
use Rattle.fol_blocks.proofs.Laid.{laid_set}
use Rattle.fol_blocks.proofs.Wholes.{len_same, puts_left, puts_right, sets_put}
use Rattle.fol_blocks.proofs.blocks.Blocks.put_settled.Goals as goal

pub returns-then-put-clause-put : goal.returns-then-put-clause-put
returns-then-put-clause-put c =
    puts_left (blocks_in c.args.self.now.cells.entries) c.args.self.now.fresh.items (blocks_in c.put.new.cells.entries) c.args.block (c.put.ensures.put c.if-put.true) c.requires.absent

pub returns-then-put-clause-laid : goal.returns-then-put-clause-laid
returns-then-put-clause-laid c =
    let after : Blocks = record { cells = c.put.new.cells; fresh = c.args.self.now.fresh; len = c.put.new.len } in
    laid_set c.args.self.now after c.requires.laid c.put.ensures.cells c.requires.laid.fresh_order c.args.block (sets_put (blocks_of c.args.self.now) (blocks_of after) c.args.block (returns-then-put-clause-put c) c.requires.filled)

pub returns-clause-put : goal.returns-clause-put
returns-clause-put c =
    puts_right (blocks_in c.args.self.now.cells.entries) c.args.self.now.fresh.items (blocks_in c.put.new.cells.entries) c.put-2.new.blocks.items c.args.block
    (c.put.ensures.same c.if-put.false) (c.put.ensures.absent c.if-put.false) (c.put-2.ensures.put (c.put-2.ensures.room c.requires.room))

pub returns-clause-laid : goal.returns-clause-laid
returns-clause-laid c =
    let after : Blocks = record { cells = c.put.new.cells; fresh = c.put-2.new.blocks; len = c.put-2.new.len } in
    laid_set c.args.self.now after c.requires.laid c.put.ensures.cells c.put-2.ensures.order c.args.block (sets_put (blocks_of c.args.self.now) (blocks_of after) c.args.block (returns-clause-put c) c.requires.filled)

pub returns-then-put-clause-counted : goal.returns-then-put-clause-counted
returns-then-put-clause-counted c =
    omega (
      arith,
      c.put.ensures.counted,
      length-append (blocks_in c.args.self.now.cells.entries) c.args.self.now.fresh.items,
      length-append (blocks_in c.put.new.cells.entries) c.args.self.now.fresh.items,
    )

pub put-requires-2-clause-few : goal.put-requires-2-clause-few
put-requires-2-clause-few c =
    omega (
      arith,
      c.put.ensures.counted,
      len_same (blocks_in c.args.self.now.cells.entries) (blocks_in c.put.new.cells.entries) (c.put.ensures.same c.if-put.false),
      c.requires.few,
    )

pub returns-clause-counted : goal.returns-clause-counted
returns-clause-counted c =
    omega (
      arith,
      c.put.ensures.counted,
      c.put-2.ensures.counted,
      length-append (blocks_in c.args.self.now.cells.entries) c.args.self.now.fresh.items,
      length-append (blocks_in c.put.new.cells.entries) c.put-2.new.blocks.items,
      c.args.self.now.fresh.ok,
      c.put-2.new.blocks.ok,
    )
