use Rattle.fol_regions.specs.Table.{grid_state}
use Rattle.fol_regions.proofs.regions.Regions.holds.Goals as goal

pub returns : goal.returns
unfolding grid_state
returns c = rw (← c.self.view_is) c.holds.ensures
