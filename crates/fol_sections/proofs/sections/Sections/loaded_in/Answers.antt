use Rattle.std.proofs.Common.{sym, ◌∙◌, arith}
use Rattle.fol_sections.proofs.Bounds.{chunks_few}
use Rattle.fol_sections.proofs.Tables.{table-loaded}
use Rattle.fol_sections.proofs.sections.Sections.loaded_in.Goals as goal

pub returns-clause-value : goal.returns-clause-value
returns-clause-value c = rw (← c.self.view_is) (c.loaded.ensures ∙ c.self.invariant.0.chunks c.args.s
    ∙ sym (table-loaded c.self.inside.grid c.self.inside.holds.entries c.self.inside.pages.entries c.self.inside.filled.items c.self.inside.died.items c.self.inside.spare c.args.s).1)

pub returns-clause-few : goal.returns-clause-few
returns-clause-few c = omega (arith, c.loaded.ensures, chunks_few c.self.inside.grid c.self.inside.holds.entries c.self.inside.pages.entries c.self.inside.count c.args.s c.self.invariant.0)
