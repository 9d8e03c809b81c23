use Rattle.std.proofs.Common.{◌∙◌, ap, arith}
use Rattle.fol_model.specs.World.{block_in}
use Rattle.fol_model.specs.declared.openings.BlockAt.{BlockAt}
use Rattle.std.specs.Prelude.{List}
use Rattle.fol_store.specs.Stock.{found}
use Rattle.fol_bags.specs.Things.{of_block, some_number}
use Rattle.fol_store.proofs.Baring.{all_closed}
use Rattle.fol_store.proofs.LayingThings.{block_fresh, block_above, block_more, take_all}
use Rattle.fol_store.proofs.store.Store.lay_blocks.Goals as goal

pub lay_block-requires-clause-closed : goal.lay_block-requires-clause-closed
lay_block-requires-clause-closed c = all_closed c.args.self.now c.loop-block.self c.requires.bare.closed c.loop-block.invariant.bags

pub lay_block-requires-clause-fresh : goal.lay_block-requires-clause-fresh
lay_block-requires-clause-fresh c = c.loop-block.invariant.blocks _ ∙ ap some_number (block_fresh c.args.blocks.now c.loop-block.block-index _ c.requires.order c.loop-block-test.true)

pub lay_block-requires-clause-above : goal.lay_block-requires-clause-above
lay_block-requires-clause-above c = block_above c.args.blocks.now c.loop-block.block-index _ c.requires.each c.loop-block-test.true

pub loop-block-preserved : goal.loop-block-preserved
loop-block-preserved c = record {
  blocks = λ q. c.in_ok-lay_block.ensures.blocks q ∙ block_more c.args.blocks.now c.loop-block.block-index _ _ q (found c.loop-block.self (of_block q)) c.requires.order c.loop-block-test.true (omega arith) (c.loop-block.invariant.blocks q);
  entities = λ n. c.in_ok-lay_block.ensures.entities n ∙ c.loop-block.invariant.entities n;
  tasks = λ n. c.in_ok-lay_block.ensures.tasks n ∙ c.loop-block.invariant.tasks n;
  bags = c.lay_block.ensures.bags ∙ c.loop-block.invariant.bags;
}

pub returns-clause-blocks : goal.returns-clause-blocks
returns-clause-blocks c = λ q. c.loop-block.invariant.blocks q ∙ ap (λ (xs : List BlockAt). some_number (block_in xs q)) (take_all c.args.blocks.now c.loop-block.block-index (omega (arith, c.loop-block-test.false)))
