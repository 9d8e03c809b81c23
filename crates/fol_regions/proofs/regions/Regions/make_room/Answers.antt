use Rattle.std.proofs.Common.{◌≤◌, arith}
use Rattle.fol_regions.specs.Released.{grid_of}
use Rattle.fol_regions.specs.Table.{grid_state}
use Rattle.fol_regions.proofs.NearbySteps.{owners_stand}
use Rattle.fol_regions.proofs.TableSteps as steps
use Rattle.fol_regions.proofs.regions.Regions.make_room.Goals as goal

pub invariant_of-self : goal.invariant_of-self
invariant_of-self c = (
  steps.alike_kept c.self.inside.grid c.self.inside.sections c.self.inside.tables c.self.inside.spare c.self.invariant.0 c.reserve.new.self c.self.inside.tables c.self.inside.spare c.reserve.ensures.same (steps.alike_same c.self.inside.tables) (omega arith)
      (omega (arith, c.self.invariant.0.spare, c.reserve.ensures.spare)) c.self.invariant.0.room,
  steps.alike_bounds c.self.inside.grid c.self.inside.sections c.self.inside.tables c.self.inside.spare c.self.invariant.0 c.reserve.new.self c.self.inside.tables c.self.inside.spare c.reserve.ensures.same (steps.alike_same c.self.inside.tables) _ c.self.invariant.1,
  c.self.invariant.2,
)

pub returns-in_err-reserve-clause-state : goal.returns-in_err-reserve-clause-state
unfolding grid_state grid_of
returns-in_err-reserve-clause-state c = rw (← c.self.view_is) (steps.alike_state c.self.inside.grid c.self.inside.sections c.self.inside.tables c.self.inside.spare c.self.invariant.0 c.reserve.new.self c.self.inside.tables c.self.inside.spare c.reserve.ensures.same (steps.alike_same c.self.inside.tables))

pub invariant_of-self-in_err-reserve-2 : goal.invariant_of-self-in_err-reserve-2
invariant_of-self-in_err-reserve-2 c = (
  steps.alike_kept c.self.inside.grid c.self.inside.sections c.self.inside.tables c.self.inside.spare c.self.invariant.0 c.reserve.new.self c.reserve-2.new.self c.self.inside.spare c.reserve.ensures.same c.reserve-2.ensures.same (omega arith)
      (omega (arith, c.self.invariant.0.spare, c.reserve.ensures.spare)) (steps.room_kept _ _ _ _ c.self.invariant.0.room c.reserve-2.ensures.free c.reserve-2.ensures.ahead c.reserve-2.ensures.behind),
  steps.alike_bounds c.self.inside.grid c.self.inside.sections c.self.inside.tables c.self.inside.spare c.self.invariant.0 c.reserve.new.self c.reserve-2.new.self c.self.inside.spare c.reserve.ensures.same c.reserve-2.ensures.same _ c.self.invariant.1,
  owners_stand c.self.inside.near c.self.inside.tables c.reserve-2.new.self _ c.reserve-2.ensures.same.owner c.reserve-2.ensures.same.next c.self.invariant.2,
)

pub returns-in_err-reserve-2-clause-state : goal.returns-in_err-reserve-2-clause-state
unfolding grid_state grid_of
returns-in_err-reserve-2-clause-state c = rw (← c.self.view_is) (steps.alike_state c.self.inside.grid c.self.inside.sections c.self.inside.tables c.self.inside.spare c.self.invariant.0 c.reserve.new.self c.reserve-2.new.self c.self.inside.spare c.reserve.ensures.same c.reserve-2.ensures.same)

pub invariant_of-self-2 : goal.invariant_of-self-2
invariant_of-self-2 c = let more : c.self.inside.spare ≤ c.args.n = rw (← c.self.view_is) at c.requires.more in (
  steps.alike_kept c.self.inside.grid c.self.inside.sections c.self.inside.tables c.self.inside.spare c.self.invariant.0 c.reserve.new.self c.reserve-2.new.self c.args.n c.reserve.ensures.same c.reserve-2.ensures.same (omega (arith, more))
      (omega (arith, c.in_ok-reserve.ensures.ok)) c.in_ok-reserve-2.ensures.ok,
  steps.alike_bounds c.self.inside.grid c.self.inside.sections c.self.inside.tables c.self.inside.spare c.self.invariant.0 c.reserve.new.self c.reserve-2.new.self c.args.n c.reserve.ensures.same c.reserve-2.ensures.same _ c.self.invariant.1,
  owners_stand c.self.inside.near c.self.inside.tables c.reserve-2.new.self _ c.reserve-2.ensures.same.owner c.reserve-2.ensures.same.next c.self.invariant.2,
)

pub returns-clause-state : goal.returns-clause-state
unfolding grid_state grid_of
returns-clause-state c = rw (← c.self.view_is) (steps.alike_state c.self.inside.grid c.self.inside.sections c.self.inside.tables c.self.inside.spare c.self.invariant.0 c.reserve.new.self c.reserve-2.new.self c.args.n c.reserve.ensures.same c.reserve-2.ensures.same)
