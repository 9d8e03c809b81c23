use Rattle.std.proofs.Common.{◌≡◌}
use Rattle.fol_model.specs.declared.regions.State.TheVariants.{Ready, Ticking}
use Rattle.fol_model.specs.Rules.{Rules}
use Rattle.fol_region_tables.specs.Book.{state_of}
use Rattle.fol_regions.specs.Answers.{unbegun}
use Rattle.fol_regions.specs.Released.{grid_of}
use Rattle.fol_regions.specs.Table.{grid_state}
use Rattle.fol_regions.proofs.NearbySteps.{owners_stand}
use Rattle.fol_regions.proofs.TableSteps as steps
use Rattle.fol_regions.proofs.regions.Regions.unbegin.Goals as goal

pub set_state-requires : goal.set_state-requires
unfolding grid_state
set_state-requires c =
    let ticks : state_of c.self.inside.tables c.args.id ≡ Ticking = rw (← c.self.view_is) at c.requires.ticks in
    c.keeps_states.ensures c.args.id (λ d. cc)

pub invariant_of-self : goal.invariant_of-self
unfolding grid_state grid_of
invariant_of-self c =
    let rules : Rules (unbegun (grid_of c.self.inside.sections c.self.inside.tables) c.args.id) = rw (← c.self.view_is) at c.requires.rules in
    (steps.unbegun_kept c.self.inside.grid c.self.inside.sections c.self.inside.tables c.self.inside.spare c.self.invariant.0 c.set_state.new.self c.args.id c.set_state.ensures rules, steps.set_bounds c.self.inside.grid c.self.inside.sections c.self.inside.tables c.self.inside.spare c.self.invariant.0 c.set_state.new.self c.args.id Ready c.set_state.ensures _ c.self.invariant.1, owners_stand c.self.inside.near c.self.inside.tables c.set_state.new.self _ c.set_state.ensures.owner c.set_state.ensures.next c.self.invariant.2)

pub returns-clause-state : goal.returns-clause-state
unfolding grid_state grid_of
returns-clause-state c = rw (← c.self.view_is) (steps.unbegun_is c.self.inside.grid c.self.inside.sections c.self.inside.tables c.self.inside.spare c.self.invariant.0 c.set_state.new.self c.args.id c.set_state.ensures)
