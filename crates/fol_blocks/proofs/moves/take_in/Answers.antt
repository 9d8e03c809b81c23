use Rattle.std.proofs.Common.{◌≡◌, ◌∷◌, ◌∙◌, sym, arith, None}
use Rattle.std.specs.List.Sorted.{IsPermutation}
use Rattle.fol_blocks.specs.Cells.{cell_at}
use Rattle.fol_blocks.proofs.CellSteps.{cells_written, no_such, opened}
use Rattle.fol_blocks.proofs.Weighing.{length_sum}
use Rattle.fol_blocks.proofs.moves.take_in.Goals as goal

pub returns-in-Ok-clause-cells : goal.returns-in-Ok-clause-cells
returns-in-Ok-clause-cells c = cells_written c.args.cells.now.entries _ c.args.key c.requires.cells c.args.cell c.requires.cell c.in-Ok.ensures.unique c.in-Ok.ensures.updates.0

pub returns-in-Ok-clause-moved : goal.returns-in-Ok-clause-moved
returns-in-Ok-clause-moved c = λ f.
    let none : cell_at c.args.cells.now.entries c.args.key ≡ None = no_such (cell_at c.args.cells.now.entries c.args.key) (sym c.contains_key.ensures ∙ c.if-not-contains_key.true) in
    let m : IsPermutation ((c.args.key, c.args.cell) ∷ c.args.cells.now.entries) c.insert.new.self.entries = rw (c.in-Ok.ensures.old ∙ none) at c.in-Ok.ensures.entries in
    omega (arith, opened c.args.cells.now.entries _ c.args.key c.args.cell m f)

pub returns-else-len-capacity-clause-moved : goal.returns-else-len-capacity-clause-moved
returns-else-len-capacity-clause-moved c = λ f. omega (arith, c.join_to.ensures.joined f)

pub returns-else-len-capacity-clause-len : goal.returns-else-len-capacity-clause-len
returns-else-len-capacity-clause-len c =
    omega (arith, c.join_to.ensures.joined (λ x. 1), length_sum c.args.cell, length_sum c.args.fresh.now.items, length_sum c.join_to.new.list.items, c.args.fresh.now.ok, c.join_to.new.list.ok)
