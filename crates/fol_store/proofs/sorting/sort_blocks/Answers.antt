use Rattle.std.proofs.Common.{rules}
use Rattle.fol_model.specs.declared.openings.BlockAt.{BlockAt}
use Rattle.fol_model.specs.Geometry.{same_block}
use Rattle.fol_model.specs.Universe.{block_cmp}
use Rattle.fol_keyed.proofs.Places.{block_cmp_total, block_cmp_tells, same_block-true, same_block-self}
use Rattle.fol_keyed.proofs.Keyed.{differ_permuted}
use Rattle.fol_keyed.proofs.Answers.{on_ok}
use Rattle.fol_bags.proofs.Ordered.{strict_by}
use Rattle.fol_store.proofs.sorting.sort_blocks.Goals as goal

pub returns-clause-order : goal.returns-clause-order
returns-clause-order c =
    on_ok c.sort_by.result _ _ c.sort_by.ensures.sorted (λ s.
    strict_by (λ (b : BlockAt). b.at) block_cmp block_cmp_total block_cmp_tells same_block same_block-self c.sort_by.new.self.items
    (differ_permuted same_block same_block-true same_block-self (λ (b : BlockAt). b.at) _ _ c.sort_by.ensures.permutation c.requires) s (λ a r q k. search rules))
