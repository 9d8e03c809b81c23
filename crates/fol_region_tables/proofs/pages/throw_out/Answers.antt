use Rattle.fol_pages.specs.Pages.{is_same, page_at}
use Rattle.fol_region_tables.proofs.PageOwners.{owners-left}
use Rattle.fol_region_tables.proofs.pages.throw_out.Goals as goal

pub returns-then-is_unused-clause-owner : goal.returns-then-is_unused-clause-owner
unfolding page_at is_same
returns-then-is_unused-clause-owner c = owners-left c.args.pages.now.entries _ c.args.key.0 c.args.key.1 c.remove.ensures.updates (c.is_unused.ensures c.if-is_unused.true)
