use Rattle.fol_region_tables.specs.Book.{owner_of}
use Rattle.fol_region_tables.proofs.tables.Tables.owner.Goals as goal

pub returns : goal.returns
unfolding owner_of
returns c = rw (← c.self.view_is) c.owner.ensures
