use Rattle.std.proofs.Common.{◌∙◌, sym}
use Rattle.fol_regions.specs.Table.{grid_state}
use Rattle.fol_regions.proofs.TableSteps as steps
use Rattle.fol_regions.proofs.regions.Regions.owner.Goals as goal

pub returns-then-id-eq0 : goal.returns-then-id-eq0
unfolding grid_state
returns-then-id-eq0 c = rw (← c.self.view_is) (steps.owner_none _ (sym c.owner-id.ensures ∙ c.if-id-eq0.true))

pub returns-else-id-eq0 : goal.returns-else-id-eq0
unfolding grid_state
returns-else-id-eq0 c = rw (← c.self.view_is, ← c.owner-id.ensures) (steps.owner_some c.owner-id.result c.if-id-eq0.false)
