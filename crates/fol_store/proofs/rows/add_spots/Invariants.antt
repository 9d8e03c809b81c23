use Rattle.std.proofs.Common.{◌≡◌, ◌++◌}
use Rattle.std.specs.Prelude.{All}
use Rattle.std.specs.List.{flat_map}
use Rattle.fol_store.specs.Lists.{blocks_of, entities_of, tasks_of, IsListed}
use Rattle.fol_store.proofs.rows.add_spots.Given as goal

abbrev pub invariant-loop-spot : goal.invariant-loop-spot
invariant-loop-spot l = record {
  blocks : l.rows.blocks.items ≡ l.fn.rows.blocks.items ++ flat_map blocks_of l.yielded;
  entities : l.rows.entities.items ≡ l.fn.rows.entities.items ++ flat_map entities_of l.yielded;
  tasks : l.rows.tasks.items ≡ l.fn.rows.tasks.items ++ flat_map tasks_of l.yielded;
  listed : All IsListed l.yielded;
}
