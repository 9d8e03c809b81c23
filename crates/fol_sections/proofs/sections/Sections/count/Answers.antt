use Rattle.fol_sections.specs.Table.{present_count}
use Rattle.fol_sections.proofs.Tables.{table-presence}
use Rattle.fol_sections.proofs.sections.Sections.count.Goals as goal

pub returns : goal.returns
unfolding present_count
returns c = rw (← c.self.view_is) (rw (table-presence c.self.inside.grid c.self.inside.holds.entries c.self.inside.pages.entries c.self.inside.filled.items c.self.inside.died.items c.self.inside.spare c.self.invariant.0.section_limits) c.self.invariant.0.count)
