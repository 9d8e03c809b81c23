use Rattle.std.proofs.Common.{rules}
use Rattle.std.proofs.lemmas.Fn.{always_returns_same}
use Rattle.fol_model.specs.Universe.{block_cmp}
use Rattle.fol_model.specs.declared.openings.BlockAt.{BlockAt}
use Rattle.fol_keyed.proofs.Sorted.{searched_by}
use Rattle.fol_keyed.proofs.Places.{block_cmp_total, block_cmp_tells}
use Rattle.fol_blocks.proofs.block_list.place_of.Goals as goal

pub returns : goal.returns
returns c =
    searched_by (λ (b : BlockAt). b.at) block_cmp block_cmp_total block_cmp_tells _ c.args.at c.binary_search_by.result c.requires c.binary_search_by.ensures.bound
    (c.binary_search_by.ensures.position (λ b. block_cmp b.at c.args.at) (always_returns_same _ _ _ (λ a r f k. search rules)))
