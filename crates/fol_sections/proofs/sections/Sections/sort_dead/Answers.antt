use Rattle.std.proofs.Common.{◌++◌, ◌∙◌, ap}
use Rattle.fol_sections.proofs.DeadSteps.{filter-like, living-is, lonely-is}
use Rattle.fol_sections.proofs.sections.Sections.sort_dead.Goals as goal

pub returns-clause-living : goal.returns-clause-living
returns-clause-living c = rw (← c.self.view_is) (c.split_list.ensures.living ∙ ap (λ xs. c.args.living.now.items ++ xs) (filter-like _ _ c.args.list.now (λ s h.
    living-is c.self.inside.grid c.self.inside.holds.entries c.self.inside.pages.entries c.self.inside.count c.self.inside.filled.items c.self.inside.died.items c.self.inside.spare c.self.invariant.0 s)))

pub returns-clause-dead : goal.returns-clause-dead
returns-clause-dead c = rw (← c.self.view_is) (c.split_list.ensures.dead ∙ ap (λ xs. c.args.dead.now.items ++ xs) (filter-like _ _ c.args.list.now (λ s h.
    lonely-is c.self.inside.grid c.self.inside.holds.entries c.self.inside.pages.entries c.self.inside.count c.self.inside.filled.items c.self.inside.died.items c.self.inside.spare c.self.invariant.0 s)))
