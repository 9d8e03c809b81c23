use Rattle.fol_sections.specs.Pages.{page_at}
use Rattle.fol_sections.specs.Places.{is_same}
use Rattle.fol_sections.proofs.PageSteps.{counts-gone}
use Rattle.fol_sections.proofs.pages.throw_out.Goals as goal

pub returns-then-is_unused-clause-counts : goal.returns-then-is_unused-clause-counts
unfolding page_at is_same
returns-then-is_unused-clause-counts c = counts-gone c.args.pages.now.entries _ c.args.key.0 c.args.key.1 (c.is_unused.ensures c.if-is_unused.true) c.remove.ensures.updates
