use Rattle.std.proofs.Common.{◌≡◌, ◌≤◌, drop, true}
use Rattle.fol_end_laws.specs.DroppedHolds.{drop_each}
use Rattle.fol_regions.specs.Table.{grid_state}
use Rattle.fol_store.specs.Relisted.{IsInOrder}
use Rattle.fol_store.specs.Stock.{bag_of, next_of}
use Rattle.fol_world.specs.Released.{Loosens}
use Rattle.fol_world.specs.Same.{SameThings}
use Rattle.fol_world.proofs.ends.drop_holds.Given as goal

abbrev pub invariant-loop-task : goal.invariant-loop-task
invariant-loop-task l =
    (drop_each (grid_state l.regions) (drop l.task-index l.due) ≡ drop_each (grid_state l.initial.regions) l.due)
    × Loosens (grid_state l.initial.regions) (grid_state l.regions) l.region (bag_of l.initial.store) (bag_of l.store)
    × SameThings l.initial.store l.store
    × (next_of l.store ≡ next_of l.initial.store)
    × (l.regions.spare ≡ l.initial.regions.spare)
    × (l.initial.store.spare ≤ l.store.spare)
    × (l.initial.store.slots ≤ l.store.slots)
    × ((bag_of l.store l.region).taken ≡ true)
    × IsInOrder (bag_of l.store l.region)
