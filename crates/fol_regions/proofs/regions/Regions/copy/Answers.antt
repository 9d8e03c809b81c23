use Rattle.std.proofs.Common.{◌*◌, ◌∙◌, arith}
use Rattle.std.proofs.lemmas.Result.{IfOk-weaker}
use Rattle.fol_regions.specs.Released.{grid_of}
use Rattle.fol_regions.specs.Table.{grid_state}
use Rattle.fol_regions.proofs.TableSteps as steps
use Rattle.fol_regions.proofs.regions.Regions.copy.Goals as goal

pub of_parts-requires : goal.of_parts-requires
of_parts-requires c =
    let room = steps.room_kept c.self.inside.tables c.in_ok-tables.tables (34 * c.self.inside.spare) (625 * c.self.inside.spare) c.self.invariant.0.room c.in_ok-tables.ensures.free
    (c.in_ok-tables.ensures.ahead.0, omega (arith, c.in_ok-tables.ensures.ahead.1)) (c.in_ok-tables.ensures.behind.0, omega (arith, c.in_ok-tables.ensures.behind.1)) in
    steps.alike_kept c.self.inside.grid c.self.inside.sections c.self.inside.tables c.self.inside.spare c.self.invariant.0 c.in_ok-sections.sections c.in_ok-tables.tables c.self.inside.spare c.in_ok-sections.ensures.same c.in_ok-tables.ensures.same (omega arith)
    (omega (arith, c.self.invariant.0.spare, c.in_ok-sections.ensures.spare)) room

pub returns-clause-state : goal.returns-clause-state
unfolding grid_state grid_of
returns-clause-state c = rw (← c.self.view_is) (IfOk-weaker c.of_parts.result _ _
    (λ t e. e ∙ steps.alike_state c.self.inside.grid c.self.inside.sections c.self.inside.tables c.self.inside.spare c.self.invariant.0 c.in_ok-sections.sections c.in_ok-tables.tables c.self.inside.spare c.in_ok-sections.ensures.same c.in_ok-tables.ensures.same)
    c.of_parts.ensures.state)

pub returns-clause-last : goal.returns-clause-last
returns-clause-last c = rw (← c.self.view_is) (IfOk-weaker c.of_parts.result _ _ (λ t e. e ∙ c.in_ok-change.ensures) c.of_parts.ensures.last)

pub returns-clause-spare : goal.returns-clause-spare
returns-clause-spare c = rw (← c.self.view_is) (IfOk-weaker c.of_parts.result _ _ (λ t e. omega (arith, e)) c.of_parts.ensures.spare)
