use Rattle.std.proofs.Common.{◌≡◌, ◌-◌, ◌++◌, ◌∷◌, [], sym, ◌∙◌, ap, refl, arith, Some, get_or, vec_len}
use Rattle.std.specs.Prelude.{Contains}
use Rattle.std.specs.Option.{option_to_list}
use Rattle.std.proofs.lemmas.List.Sums.{sum_by-append}
use Rattle.fol_model.specs.declared.openings.BlockAt.{BlockAt}
use Rattle.fol_model.specs.Universe.{block_cmp}
use Rattle.fol_keyed.proofs.Places.{block_cmp_total}
use Rattle.fol_keyed.proofs.Sorted.{sorted_take}
use Rattle.fol_blocks.specs.Cells.{blocks_in}
use Rattle.fol_blocks.specs.Kept.{blocks_of}
use Rattle.fol_blocks.specs.Weights.{one_at, SameBlocks}
use Rattle.fol_blocks.specs.declared.blocks.Blocks.{Blocks}
use Rattle.fol_blocks.proofs.Laid.{kept_same, same_settled}
use Rattle.fol_blocks.proofs.Weighing.{counted}
use Rattle.fol_blocks.proofs.Wholes.{same_left}
use Rattle.fol_blocks.proofs.blocks.Blocks.settle_last.Goals as goal

pub add-requires-clause-absent : goal.add-requires-clause-absent
add-requires-clause-absent c =
    let there : Contains c.args.self.now.fresh.items c.index-block.result.now = (c.len.result - 1, omega (arith, c.args.self.now.fresh.ok), sym c.index-block.ensures) in
    omega (
      arith,
      counted c.args.self.now.fresh.items c.index-block.result.now there,
      c.requires.kept.laid.once c.index-block.result.now.at,
      sum_by-append (one_at c.index-block.result.now.at) (blocks_in c.args.self.now.cells.entries) c.args.self.now.fresh.items,
    )

pub returns-in_err-add-clause-kept : goal.returns-in_err-add-clause-kept
returns-in_err-add-clause-kept c =
    let after : Blocks = record { cells = c.add.new.cells; fresh = c.args.self.now.fresh; len = c.args.self.now.len } in
    kept_same c.args.self.now after c.requires.kept c.add.ensures.cells c.requires.kept.laid.fresh_order refl
    (same_left (blocks_in c.args.self.now.cells.entries) c.args.self.now.fresh.items (blocks_in c.add.new.cells.entries) c.in_err-add.ensures.err)

-- the last block went to its chunk
settled : (c : goal.After-pop) → SameBlocks (blocks_of c.args.self.now) (blocks_in c.add.new.cells.entries ++ c.pop.new.self.items)
settled c =
    let last : c.pop.result ≡ Some c.index-block.result.now =
    c.pop.ensures.value c.index-block.result.now c.requires.some ∙ ap (λ n. Some (get_or c.args.self.now.fresh.items (n - 1) c.index-block.result.now)) (sym c.len.ensures) ∙ ap (λ (x : BlockAt). Some x) (sym c.index-block.ensures) in
    let all : c.args.self.now.fresh.items ≡ c.pop.new.self.items ++ c.index-block.result.now ∷ [] = c.pop.ensures.items ∙ ap (λ o. c.pop.new.self.items ++ option_to_list o) last in
    same_settled (blocks_in c.args.self.now.cells.entries) (blocks_in c.add.new.cells.entries) c.args.self.now.fresh.items c.pop.new.self.items c.index-block.result.now c.in_ok-add.ensures.ok all

pub returns-clause-same : goal.returns-clause-same
returns-clause-same c = settled c

pub returns-clause-kept : goal.returns-clause-kept
returns-clause-kept c =
    let after : Blocks = record { cells = c.add.new.cells; fresh = c.pop.new.self; len = c.args.self.now.len } in
    kept_same c.args.self.now after c.requires.kept c.add.ensures.cells
    (rw c.pop.ensures.rest (sorted_take (λ (x : BlockAt). x.at) block_cmp block_cmp_total (vec_len c.args.self.now.fresh - 1) c.args.self.now.fresh.items c.requires.kept.laid.fresh_order)) refl (settled c)
