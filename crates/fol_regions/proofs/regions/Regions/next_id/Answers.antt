use Rattle.fol_regions.specs.Table.{grid_state}
use Rattle.fol_regions.proofs.regions.Regions.next_id.Goals as goal

pub returns : goal.returns
unfolding grid_state
returns c = rw (← c.self.view_is) c.next_id.ensures
