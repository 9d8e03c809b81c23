use Rattle.std.proofs.Common.{sym, ◌∙◌}
use Rattle.fol_sections.specs.Table.{presence_of}
use Rattle.fol_sections.proofs.Views.{among-present}
use Rattle.fol_sections.proofs.sections.Sections.is_present.Goals as goal

pub returns : goal.returns
unfolding presence_of
returns c = rw (← c.self.view_is) (c.is_present.ensures ∙ sym (among-present c.self.inside.pages.entries c.self.invariant.0.section_limits c.args.s))
