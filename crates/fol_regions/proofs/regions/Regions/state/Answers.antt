use Rattle.std.proofs.Common.{arith}
use Rattle.fol_regions.specs.Table.{grid_state}
use Rattle.fol_regions.proofs.TableSteps as steps
use Rattle.fol_regions.proofs.regions.Regions.state.Goals as goal

pub returns-then-id-next_id : goal.returns-then-id-next_id
unfolding grid_state
returns-then-id-next_id c = rw (← c.self.view_is) (steps.state_some c.args.id c.self.inside.tables.next c.state.result _ c.if-id-eq0.false (omega (arith, c.if-id-next_id.true, c.next_id.ensures)) c.state.ensures)

pub returns-else-id-next_id : goal.returns-else-id-next_id
unfolding grid_state
returns-else-id-next_id c = rw (← c.self.view_is) (steps.state_none c.args.id c.self.inside.tables.next _ (omega (arith, c.if-id-next_id.false, c.next_id.ensures)))
