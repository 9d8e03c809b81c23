use Rattle.fol_regions.specs.Released.{grid_of}
use Rattle.fol_regions.specs.Table.{grid_state}
use Rattle.fol_regions.proofs.regions.Regions.touched.Goals as goal

pub returns-clause-listed : goal.returns-clause-listed
unfolding grid_state grid_of
returns-clause-listed c = rw (← c.self.view_is) c.list_touched.ensures.listed
