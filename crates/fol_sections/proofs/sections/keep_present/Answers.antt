use Rattle.std.proofs.Common.{sym, ◌∙◌, arith, rules}
use Rattle.std.proofs.lemmas.Fn.{filter_same}
use Rattle.fol_sections.specs.Pages.{is_here}
use Rattle.fol_sections.proofs.Rows.{filter_none, filter_whole}
use Rattle.fol_sections.proofs.sections.keep_present.Goals as goal

pub returns-then-missing-len-clause-list : goal.returns-then-missing-len-clause-list
returns-then-missing-len-clause-list c = c.clear.ensures.items ∙ sym (filter_none (is_here c.args.pages.now.entries) c.args.list.now.items (omega arith))

pub returns-then-missing-gt0-clause-list : goal.returns-then-missing-gt0-clause-list
returns-then-missing-gt0-clause-list c = filter_same _ (is_here c.args.pages.now.entries) _ (λ x b f' k. search rules) _ _ c.retain.ensures.filtered

pub returns-else-missing-gt0-clause-list : goal.returns-else-missing-gt0-clause-list
returns-else-missing-gt0-clause-list c = sym (filter_whole (is_here c.args.pages.now.entries) c.args.list.now.items (omega (arith, c.requires.missing, c.if-missing-gt0.false)))
