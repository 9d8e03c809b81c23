use Rattle.std.proofs.Common.{◌≡◌, ℕ, take, None}
use Rattle.fol_model.specs.declared.places.BlockPos.{BlockPos}
use Rattle.fol_model.specs.World.{block_in}
use Rattle.fol_bags.specs.Things.{of_block, of_entity, of_task, some_number}
use Rattle.fol_store.specs.Stock.{found}
use Rattle.fol_store.proofs.store.Store.lay_blocks.Given as goal

abbrev pub invariant-loop-block : goal.invariant-loop-block
invariant-loop-block l = record {
  blocks : (q : BlockPos) → found l.self (of_block q) ≡ some_number (block_in (take l.block-index l.blocks) q);
  entities : (n : ℕ) → found l.self (of_entity n) ≡ None;
  tasks : (n : ℕ) → found l.self (of_task n) ≡ None;
  bags : l.self.bags ≡ l.fn.self.bags;
}
