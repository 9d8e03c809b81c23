use Rattle.fol_core.proofs.ClosingRows.{closed_if, rows_there}
use Rattle.fol_core.proofs.closing.closing_of.Goals as goal

pub grid_rows-requires-clause-have : goal.grid_rows-requires-clause-have
grid_rows-requires-clause-have c = rows_there c.args.opening c.args.history.items c.args.tables c.requires.stands c.args.live.now c.requires.live c.requires.calm

pub returns-in-Ok-clause-ok : goal.returns-in-Ok-clause-ok
returns-in-Ok-clause-ok c =
    let made = c.with_things.ensures in
    closed_if c.args.opening c.args.history.items c.args.tables c.requires.stands c.args.live.now c.requires.live c.requires.calm
    (rw (← c.opening.view_is) c.opening.invariant) c.with_things.result c.in-Ok.grid.regions.items c.in-Ok.grid.owners.items c.in-Ok.ensures.regions c.in-Ok.ensures.owners
    made.opening made.history made.regions made.owners (rw c.store_of.ensures at made.things)
