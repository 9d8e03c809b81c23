use Rattle.std.proofs.Common.{◌≡◌, ℕ, take}
use Rattle.fol_model.specs.declared.places.BlockPos.{BlockPos}
use Rattle.fol_model.specs.World.{standing_in}
use Rattle.fol_bags.specs.Things.{of_block, of_entity, of_task}
use Rattle.fol_store.specs.Stock.{found}
use Rattle.fol_store.proofs.store.Store.lay_entities.Given as goal

abbrev pub invariant-loop-entity : goal.invariant-loop-entity
invariant-loop-entity l = record {
  entities : (n : ℕ) → found l.self (of_entity n) ≡ standing_in (take l.entity-index l.entities) n;
  blocks : (q : BlockPos) → found l.self (of_block q) ≡ found l.fn.self (of_block q);
  tasks : (n : ℕ) → found l.self (of_task n) ≡ found l.fn.self (of_task n);
  bags : l.self.bags ≡ l.fn.self.bags;
}
