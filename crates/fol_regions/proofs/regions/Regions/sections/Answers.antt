use Rattle.std.proofs.Common.{◌∙◌}
use Rattle.fol_regions.specs.Table.{grid_state}
use Rattle.fol_regions.proofs.regions.Regions.sections.Goals as goal

pub returns : goal.returns
unfolding grid_state
returns c =
    rw (← c.self.view_is) (c.sections.ensures ∙ c.keeps_lists.ensures.rows c.args.id c.requires.given.above)
