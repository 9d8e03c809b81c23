use Rattle.std.proofs.Common.{◌≡◌, ◌∙◌, sym, ap, true, false}
use Rattle.fol_regions.specs.Released.{grid_of}
use Rattle.fol_regions.specs.Table.{grid_state}
use Rattle.fol_regions.proofs.AddAgain as steps
use Rattle.fol_regions.proofs.regions.Regions.add_again.Goals as goal

pub add_again-requires : goal.add_again-requires
unfolding grid_state
add_again-requires c = rw (← c.self.view_is) at c.requires.few

pub invariant_of-self : goal.invariant_of-self
invariant_of-self c =
    let s = c.self.inside in
    let stays = c.add_again.ensures.stays in
    let both = steps.either_kept s.grid s.sections c.add_again.new.self s.tables s.spare c.self.invariant.0 c.args.c stays.0 stays.3 c.add_again.ensures.presence _ c.add_again.ensures.held c.add_again.ensures.added c.add_again.ensures.none _ c.self.invariant.1 in
    (both.0, both.1, c.self.invariant.2)

pub returns-clause-held : goal.returns-clause-held
unfolding grid_state
returns-clause-held c = rw (← c.self.view_is) c.add_again.ensures.held

pub returns-clause-added : goal.returns-clause-added
unfolding grid_state grid_of
returns-clause-added c held =
    let s = c.self.inside in
    let stays = c.add_again.ensures.stays in
    rw (← c.self.view_is) (steps.again_state s.grid s.sections c.add_again.new.self s.tables s.spare c.self.invariant.0 c.args.c (sym c.add_again.ensures.held ∙ held) stays.0 stays.3 (c.add_again.ensures.added held) c.add_again.ensures.presence)

pub returns-clause-counted : goal.returns-clause-counted
unfolding grid_state grid_of
returns-clause-counted c held =
    let s = c.self.inside in
    let stays = c.add_again.ensures.stays in
    rw (← c.self.view_is) (steps.again_answer s.grid s.sections c.add_again.new.self s.tables s.spare c.self.invariant.0 c.args.c (sym c.add_again.ensures.held ∙ held) stays.0 stays.3 (c.add_again.ensures.added held) c.add_again.ensures.presence)

pub returns-clause-none : goal.returns-clause-none
unfolding grid_state grid_of
returns-clause-none c new =
    let s = c.self.inside in
    let stays = c.add_again.ensures.stays in
    rw (← c.self.view_is) (steps.none_state s.grid s.sections c.add_again.new.self s.tables s.spare c.self.invariant.0 c.args.c stays.0 stays.3 c.add_again.ensures.presence (c.add_again.ensures.none new))
