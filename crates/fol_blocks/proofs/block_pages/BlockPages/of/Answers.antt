use Rattle.fol_blocks.proofs.PageSteps.{alone}
use Rattle.fol_blocks.proofs.block_pages.BlockPages.of.Goals as goal

pub invariant_of-result : goal.invariant_of-result
invariant_of-result c = alone c.in_ok-pages.pages.items c.insert_at.new.pages.items c.args.block c.insert_at.ensures.sizes c.in_ok-pages.ensures.items c.in_ok-insert_at.ensures.ok
