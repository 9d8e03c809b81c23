use Rattle.std.proofs.Common.{◌∙◌}
use Rattle.fol_regions.specs.Table.{grid_state}
use Rattle.fol_regions.proofs.regions.Regions.waits_for.Goals as goal

pub returns : goal.returns
unfolding grid_state
returns c = rw (← c.self.view_is) (c.waits_for.ensures ∙ c.keeps_lists.ensures.ahead c.args.id)
