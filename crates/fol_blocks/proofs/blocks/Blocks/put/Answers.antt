use Rattle.std.proofs.Common.{◌≡◌, ◌++◌, arith, ap, length, length-append, refl}
use Rattle.std.specs.Prelude.{sum_by}
use Rattle.std.proofs.lemmas.List.Sums.{sum_by-append}
use Rattle.fol_blocks.specs.Cells.{blocks_in}
use Rattle.fol_blocks.specs.Kept.{blocks_of}
use Rattle.fol_blocks.specs.Weights.{one_at}
use Rattle.fol_blocks.specs.declared.blocks.Blocks.{Blocks}
use Rattle.fol_blocks.proofs.Laid.{laid_same, laid_set}
use Rattle.fol_blocks.proofs.Wholes.{one_was, puts_right, sets_put}
use Rattle.fol_blocks.proofs.blocks.Blocks.put.Goals as goal

pub returns-then-replace-clause-put : goal.returns-then-replace-clause-put
returns-then-replace-clause-put c =
    let put = c.replace.ensures.put c.if-replace.true in
    let was : sum_by (one_at c.args.block.at) c.args.self.now.fresh.items ≡ 1 = one_was c.args.self.now.fresh.items c.replace.new.blocks.items c.args.block put (omega (arith, c.replace.ensures.len, c.args.self.now.fresh.ok, c.replace.new.blocks.ok)) in
    let none : sum_by (one_at c.args.block.at) (blocks_in c.args.self.now.cells.entries) ≡ 0 =
    omega (arith, was, c.requires.laid.once c.args.block.at, sum_by-append (one_at c.args.block.at) (blocks_in c.args.self.now.cells.entries) c.args.self.now.fresh.items) in
    puts_right (blocks_in c.args.self.now.cells.entries) c.args.self.now.fresh.items (blocks_in c.args.self.now.cells.entries) c.replace.new.blocks.items c.args.block (λ f. refl) none put

pub returns-then-replace-clause-laid : goal.returns-then-replace-clause-laid
returns-then-replace-clause-laid c =
    let after : Blocks = record { cells = c.args.self.now.cells; fresh = c.replace.new.blocks; len = c.args.self.now.len } in
    laid_set c.args.self.now after c.requires.laid c.requires.laid.cells c.replace.ensures.order c.args.block (sets_put (blocks_of c.args.self.now) (blocks_of after) c.args.block (returns-then-replace-clause-put c) c.requires.filled)

pub put_settled-requires-clause-laid : goal.put_settled-requires-clause-laid
put_settled-requires-clause-laid c =
    let after : Blocks = record { cells = c.args.self.now.cells; fresh = c.replace.new.blocks; len = c.args.self.now.len } in
    laid_same c.args.self.now after c.requires.laid c.requires.laid.cells c.replace.ensures.order (λ f. ap (λ xs. sum_by f (blocks_in c.args.self.now.cells.entries ++ xs)) (c.replace.ensures.same c.if-replace.false))

pub returns-then-replace-clause-counted : goal.returns-then-replace-clause-counted
returns-then-replace-clause-counted c =
    omega (
      arith,
      c.replace.ensures.len,
      length-append (blocks_in c.args.self.now.cells.entries) c.args.self.now.fresh.items,
      length-append (blocks_in c.args.self.now.cells.entries) c.replace.new.blocks.items,
      c.args.self.now.fresh.ok,
      c.replace.new.blocks.ok,
    )

pub returns-clause-counted : goal.returns-clause-counted
returns-clause-counted c =
    omega (
      arith,
      c.put_settled.ensures.counted,
      ap length (c.replace.ensures.same c.if-replace.false),
      length-append (blocks_in c.args.self.now.cells.entries) c.args.self.now.fresh.items,
      length-append (blocks_in c.args.self.now.cells.entries) c.replace.new.blocks.items,
    )
