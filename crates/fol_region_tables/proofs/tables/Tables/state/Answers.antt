use Rattle.fol_region_tables.specs.Book.{state_of}
use Rattle.fol_region_tables.proofs.tables.Tables.state.Goals as goal

pub returns : goal.returns
unfolding state_of
returns c = rw (← c.self.view_is) c.state.ensures
