use Rattle.std.proofs.Common.{sym, ◌∙◌, ap}
use Rattle.fol_model.specs.World.{block_in}
use Rattle.fol_blocks.proofs.CellSums.{items_none, items_there, number_cells}
use Rattle.fol_blocks.proofs.cells.number_at.Goals as goal

pub returns-in-Some : goal.returns-in-Some
returns-in-Some c =
    c.number_at.ensures
    ∙ ap (λ xs. block_in xs c.args.at) (sym (items_there c.args.cells.now.entries c.args.key c.in-Some.cell.now (sym c.in-Some.ensures.value)))
    ∙ number_cells c.args.cells.now.entries c.requires.cells c.args.key c.args.at c.requires.key

pub returns-in-None : goal.returns-in-None
returns-in-None c =
    ap (λ xs. block_in xs c.args.at) (sym (items_none c.args.cells.now.entries c.args.key (sym c.in-None.ensures.value)))
    ∙ number_cells c.args.cells.now.entries c.requires.cells c.args.key c.args.at c.requires.key
