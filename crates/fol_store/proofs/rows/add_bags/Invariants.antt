use Rattle.std.proofs.Common.{◌≡◌, ◌++◌}
use Rattle.std.specs.Prelude.{All}
use Rattle.std.specs.List.{flat_map}
use Rattle.fol_bags.specs.declared.slot.Slot.{Slot}
use Rattle.fol_store.specs.Lists.{blocks_of, entities_of, tasks_of, IsListed}
use Rattle.fol_store.proofs.rows.add_bags.Given as goal

abbrev pub invariant-loop-bag : goal.invariant-loop-bag
invariant-loop-bag l = record {
  blocks : l.rows.blocks.items ≡ l.fn.rows.blocks.items ++ flat_map (λ (b : Slot). blocks_of b.body) l.yielded;
  entities : l.rows.entities.items ≡ l.fn.rows.entities.items ++ flat_map (λ (b : Slot). entities_of b.body) l.yielded;
  tasks : l.rows.tasks.items ≡ l.fn.rows.tasks.items ++ flat_map (λ (b : Slot). tasks_of b.body) l.yielded;
  listed : All (λ (b : Slot). IsListed b.body) l.yielded;
}
