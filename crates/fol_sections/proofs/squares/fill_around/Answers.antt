use Rattle.std.proofs.Common.{sym, ◌∙◌, arith}
use Rattle.fol_sections.proofs.AddTable.{none_missing}
use Rattle.fol_sections.proofs.squares.fill_around.Goals as goal

pub returns-else-loaded-eq0-clause-filled : goal.returns-else-loaded-eq0-clause-filled
returns-else-loaded-eq0-clause-filled c = c.requires.none ∙ sym (none_missing c.args.pages.now.entries c.args.s c.args.radius (c.requires.around (omega (arith, c.loaded.ensures, c.if-loaded-eq0.false))))
