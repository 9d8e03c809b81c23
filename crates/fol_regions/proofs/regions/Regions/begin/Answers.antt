use Rattle.std.proofs.Common.{◌∙◌, refl, sym}
use Rattle.fol_model.specs.declared.regions.State.TheVariants.{Ticking}
use Rattle.fol_regions.specs.Released.{grid_of}
use Rattle.fol_regions.specs.Table.{grid_state}
use Rattle.fol_regions.proofs.NearbySteps.{owners_stand}
use Rattle.fol_regions.proofs.TableSteps as steps
use Rattle.fol_regions.proofs.regions.Regions.begin.Goals as goal

pub invariant_of-self : goal.invariant_of-self
invariant_of-self c =
    let ready = sym c.state-state.ensures ∙ c.in-Ready.is in
    (steps.begun_kept c.self.inside.grid c.self.inside.sections c.self.inside.tables c.self.inside.spare c.self.invariant.0 c.set_state.new.self c.args.id ready c.set_state.ensures, steps.set_bounds c.self.inside.grid c.self.inside.sections c.self.inside.tables c.self.inside.spare c.self.invariant.0 c.set_state.new.self c.args.id Ticking c.set_state.ensures _ c.self.invariant.1, owners_stand c.self.inside.near c.self.inside.tables c.set_state.new.self _ c.set_state.ensures.owner c.set_state.ensures.next c.self.invariant.2)

pub returns-in-Ready-clause-answer : goal.returns-in-Ready-clause-answer
unfolding grid_state
returns-in-Ready-clause-answer c = let e = sym c.state-state.ensures ∙ c.in-Ready.is in rw (← c.self.view_is, e) refl

pub returns-in-Ready-clause-state : goal.returns-in-Ready-clause-state
unfolding grid_state grid_of
returns-in-Ready-clause-state c = rw (← c.self.view_is) (steps.begun_state_is c.self.inside.grid c.self.inside.sections c.self.inside.tables c.self.inside.spare c.self.invariant.0 c.set_state.new.self c.args.id (sym c.state-state.ensures ∙ c.in-Ready.is) c.set_state.ensures)

pub returns-in_default : goal.returns-in_default
unfolding grid_state
returns-in_default c =
    let n = steps.not_ready c.state-state.result c.in_default.not-Ready in
    rw (← c.self.view_is, ← c.state-state.ensures, n) (record { answer = refl; state = refl; last = refl; spare = refl })
