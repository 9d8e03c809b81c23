use Rattle.std.proofs.Common.{◌≡◌, ◌∙◌, ap, arith}
use Rattle.fol_regions.specs.declared.nearby.Nearby.{Nearby}
use Rattle.fol_regions.specs.Changes.{Changes}
use Rattle.fol_model.specs.declared.regions.State.TheVariants.{Ticking}
use Rattle.fol_regions.specs.Released.{grid_of}
use Rattle.fol_regions.specs.Table.{grid_state}
use Rattle.fol_regions.proofs.DeadKept.{bounds_created, bounds_released, created_live}
use Rattle.fol_regions.proofs.NearbySteps.{forgotten_stands}
use Rattle.fol_regions.proofs.TableSteps as steps
use Rattle.fol_regions.proofs.regions.Regions.release.Goals as goal

pub release-left-requires-clause-ticks : goal.release-left-requires-clause-ticks
unfolding grid_state grid_of
release-left-requires-clause-ticks c = rw (← c.self.view_is) at c.requires.ticks

pub release-left-requires-clause-few_ids : goal.release-left-requires-clause-few_ids
unfolding grid_state
release-left-requires-clause-few_ids c = rw (← c.self.view_is) at c.requires.few_ids

pub invariant_of-self : goal.invariant_of-self
unfolding grid_state grid_of
invariant_of-self c =
    let ticks = rw (← c.self.view_is) at c.requires.ticks in
    let kept = steps.released_kept c.self.inside.grid c.self.inside.sections c.self.inside.tables c.self.inside.spare c.self.invariant.0 c.release-left.new.sections c.release-left.new.tables c.args.id ticks c.release-left.ensures.state c.release-left.ensures.presence c.release-left.ensures.rooms c.release-left.ensures.grid c.release-left.ensures.spare in
    let set = bounds_released (grid_of c.self.inside.sections c.self.inside.tables) c.args.id c.self.invariant.0.rules ticks (grid_of c.release-left.new.sections c.release-left.new.tables) c.release-left.ensures.state kept.rules _ _ c.release-left.result c.self.invariant.1 c.release-left.ensures.dead c.set.ensures in
    let created = c.created.ensures in (
      kept,
      bounds_created (grid_of c.release-left.new.sections c.release-left.new.tables) _ _ c.created.result.now kept.rules set
          (created_live (grid_of c.self.inside.sections c.self.inside.tables) c.args.id c.self.invariant.0.rules ticks (grid_of c.release-left.new.sections c.release-left.new.tables) c.release-left.ensures.state c.created.result.now (created ∙ ap (λ (x : Changes). x.created) c.release-left.ensures.change)) c.note_created.ensures,
      forgotten_stands _ c.release-left.new.tables _ (ap (λ (n : Nearby). n.home) c.forget.ensures),
    )

pub release-left-requires-clause-dead : goal.release-left-requires-clause-dead
unfolding grid_state grid_of
release-left-requires-clause-dead c =
    let ticks : (grid_of c.self.inside.sections c.self.inside.tables).state c.args.id ≡ Ticking = rw (← c.self.view_is) at c.requires.ticks in
    let most = c.self.invariant.1.at c.args.id (c.self.invariant.0.rules.given c.args.id (λ d. cc)) in
    omega (arith, most, c.most-most.ensures)

pub returns-clause-state : goal.returns-clause-state
unfolding grid_state grid_of
returns-clause-state c = rw (← c.self.view_is) c.release-left.ensures.state

pub returns-clause-last : goal.returns-clause-last
unfolding grid_state grid_of
returns-clause-last c = rw (← c.self.view_is) c.release-left.ensures.change
