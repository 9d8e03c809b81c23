use Rattle.fol_region_tables.proofs.owners.Owners.give_all.Goals as goal

pub returns-clause-room : goal.returns-clause-room
returns-clause-room c = rw (← c.self.view_is) c.give_all.ensures.room
