use Rattle.std.proofs.Common.{◌∙◌}
use Rattle.fol_regions.specs.Released.{grid_of}
use Rattle.fol_regions.specs.Table.{grid_state}
use Rattle.fol_regions.proofs.HoldSteps.{present_same}
use Rattle.fol_regions.proofs.regions.Regions.present_count.Goals as goal

pub returns : goal.returns
unfolding grid_state grid_of
returns c = rw (← c.self.view_is) (c.count.ensures ∙ present_same _ _ c.self.invariant.0.presence)
