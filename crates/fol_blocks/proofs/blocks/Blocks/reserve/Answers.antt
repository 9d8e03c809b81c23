use Rattle.std.proofs.Common.{◌++◌, ◌∙◌, ap, refl}
use Rattle.std.specs.Prelude.{sum_by}
use Rattle.fol_blocks.specs.Cells.{blocks_in}
use Rattle.fol_blocks.specs.Kept.{blocks_of}
use Rattle.fol_blocks.specs.Weights.{SameBlocks}
use Rattle.fol_blocks.specs.declared.blocks.Blocks.{Blocks}
use Rattle.fol_blocks.proofs.CellSteps.{cells_permuted, same_permuted}
use Rattle.fol_blocks.proofs.Laid.{kept_same}
use Rattle.fol_blocks.proofs.Wholes.{len_same, numbers_same, same_left}
use Rattle.fol_blocks.proofs.blocks.Blocks.reserve.Goals as goal

pub returns-in_err-settle-clause-numbers : goal.returns-in_err-settle-clause-numbers
returns-in_err-settle-clause-numbers c = numbers_same (blocks_of c.args.self.now) (blocks_of c.settle.new.self) c.settle.ensures.same c.requires.laid.once

pub returns-in_err-reserve-clause-kept : goal.returns-in_err-reserve-clause-kept
returns-in_err-reserve-clause-kept c =
    let after : Blocks = record { cells = c.settle.new.self.cells; fresh = c.reserve.new.self; len = c.settle.new.self.len } in
    kept_same c.settle.new.self after c.settle.ensures.kept c.settle.ensures.kept.laid.cells (rw c.reserve.ensures.items c.settle.ensures.kept.laid.fresh_order) refl
    (λ f. ap (λ xs. sum_by f (blocks_in c.settle.new.self.cells.entries ++ xs)) c.reserve.ensures.items)

pub returns-in_err-reserve-clause-numbers : goal.returns-in_err-reserve-clause-numbers
returns-in_err-reserve-clause-numbers c =
    let after : Blocks = record { cells = c.settle.new.self.cells; fresh = c.reserve.new.self; len = c.settle.new.self.len } in
    numbers_same (blocks_of c.args.self.now) (blocks_of after)
    (λ f. ap (λ xs. sum_by f (blocks_in c.settle.new.self.cells.entries ++ xs)) c.reserve.ensures.items ∙ c.settle.ensures.same f) c.requires.laid.once

-- the cells in another order, and the same fresh blocks
made : (c : goal.After-reserve-2) → SameBlocks (blocks_of c.settle.new.self) (blocks_in c.reserve-2.new.self.entries ++ c.reserve.new.self.items)
made c f =
    same_left (blocks_in c.settle.new.self.cells.entries) c.reserve.new.self.items (blocks_in c.reserve-2.new.self.entries) (same_permuted c.settle.new.self.cells.entries c.reserve-2.new.self.entries c.reserve-2.ensures.entries.0) f
    ∙ ap (λ xs. sum_by f (blocks_in c.settle.new.self.cells.entries ++ xs)) c.reserve.ensures.items

pub returns-clause-kept : goal.returns-clause-kept
returns-clause-kept c =
    let after : Blocks = record { cells = c.reserve-2.new.self; fresh = c.reserve.new.self; len = c.settle.new.self.len } in
    kept_same c.settle.new.self after c.settle.ensures.kept
    (cells_permuted c.settle.new.self.cells.entries c.reserve-2.new.self.entries c.settle.ensures.kept.laid.cells c.reserve-2.ensures.unique c.reserve-2.ensures.entries.2) (rw c.reserve.ensures.items c.settle.ensures.kept.laid.fresh_order) refl (made c)

pub returns-clause-numbers : goal.returns-clause-numbers
returns-clause-numbers c =
    let after : Blocks = record { cells = c.reserve-2.new.self; fresh = c.reserve.new.self; len = c.settle.new.self.len } in
    numbers_same (blocks_of c.args.self.now) (blocks_of after) (λ f. made c f ∙ c.settle.ensures.same f) c.requires.laid.once

pub returns-clause-len : goal.returns-clause-len
returns-clause-len c =
    let after : Blocks = record { cells = c.reserve-2.new.self; fresh = c.reserve.new.self; len = c.settle.new.self.len } in
    len_same (blocks_of c.args.self.now) (blocks_of after) (λ f. made c f ∙ c.settle.ensures.same f)
