use Rattle.fol_region_tables.proofs.owners.Owners.reserve.Goals as goal

pub returns-clause-owner : goal.returns-clause-owner
returns-clause-owner c = rw (← c.self.view_is) c.make_room.ensures.owner
