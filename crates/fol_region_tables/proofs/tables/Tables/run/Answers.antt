use Rattle.fol_region_tables.specs.Book.{owner_of}
use Rattle.fol_region_tables.proofs.tables.Tables.run.Goals as goal

pub returns-clause-owners : goal.returns-clause-owners
unfolding owner_of
returns-clause-owners c = rw (← c.self.view_is) c.run.ensures.owners
