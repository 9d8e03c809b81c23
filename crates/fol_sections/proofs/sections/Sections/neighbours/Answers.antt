use Rattle.std.proofs.Common.{sym, ◌∙◌}
use Rattle.fol_sections.proofs.Margins.{near-is}
use Rattle.fol_sections.proofs.Tables.{table-neighbours}
use Rattle.fol_sections.proofs.sections.Sections.neighbours.Goals as goal

pub returns : goal.returns
returns c = rw (← c.self.view_is) (c.near.ensures ∙ near-is _ _ _ _ c.self.invariant.0 c.args.s ∙ sym (table-neighbours c.self.inside.grid c.self.inside.holds.entries c.self.inside.pages.entries c.self.inside.filled.items c.self.inside.died.items c.self.inside.spare c.args.s))
