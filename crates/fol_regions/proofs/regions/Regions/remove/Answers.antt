use Rattle.std.proofs.Common.{◌∙◌}
use Rattle.fol_regions.specs.Released.{grid_of}
use Rattle.fol_regions.specs.Table.{grid_state}
use Rattle.fol_regions.proofs.TableSteps as steps
use Rattle.fol_regions.proofs.regions.Regions.remove.Goals as goal

pub invariant_of-self : goal.invariant_of-self
invariant_of-self c =
    let is = c.remove-answer.ensures.answer in
    let are = rw is at c.remove-answer.ensures.died in
    let died = c.died.ensures in
    let noted = rw died at c.note_died.ensures in
    (steps.removed_kept c.self.inside.grid c.self.inside.sections c.self.inside.tables c.self.inside.spare c.self.invariant.0 c.remove-answer.new.self c.args.c c.remove-answer.ensures.stays.0 c.remove-answer.ensures.stays.2 c.remove-answer.ensures.holds c.remove-answer.ensures.presence, steps.removed_bounds c.self.inside.grid c.self.inside.sections c.self.inside.tables c.self.inside.spare c.self.invariant.0 c.remove-answer.new.self c.args.c c.remove-answer.ensures.stays.0 c.remove-answer.ensures.stays.2 c.remove-answer.ensures.holds c.remove-answer.ensures.presence _ _ c.self.invariant.1 _ are noted, c.self.invariant.2)

pub returns-clause-state : goal.returns-clause-state
unfolding grid_state grid_of
returns-clause-state c = rw (← c.self.view_is) (steps.removed_state c.self.inside.grid c.self.inside.sections c.self.inside.tables c.self.inside.spare c.self.invariant.0 c.remove-answer.new.self c.args.c c.remove-answer.ensures.stays.0 c.remove-answer.ensures.stays.2 c.remove-answer.ensures.holds c.remove-answer.ensures.presence)

pub returns-clause-answer : goal.returns-clause-answer
unfolding grid_state grid_of
returns-clause-answer c = rw (← c.self.view_is) (c.remove-answer.ensures.answer ∙ steps.removed_answer c.self.inside.grid c.self.inside.sections c.self.inside.tables c.self.inside.spare c.self.invariant.0 c.args.c)
