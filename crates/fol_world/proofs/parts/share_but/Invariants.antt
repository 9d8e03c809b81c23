use Rattle.std.proofs.Common.{◌≡◌, ℕ, ◌<◌, ◌+◌}
use Rattle.fol_regions.specs.Table.{grid_state}
use Rattle.fol_store.specs.Stock.{bag_of, next_of}
use Rattle.fol_world.specs.Bags.{Follow}
use Rattle.fol_world.specs.Parts.{SharesBelow}
use Rattle.fol_world.specs.Same.{SameThings}
use Rattle.fol_world.proofs.parts.share_but.Given as goal

abbrev pub invariant-loop-id : goal.invariant-loop-id
invariant-loop-id l = record {
  shares : (n : ℕ) → Follow n l.parts → l.region < n → SharesBelow (grid_state l.regions) l.region l.heir l.parts (n + l.id-index) (bag_of l.initial.store) (bag_of l.store);
  things : SameThings l.initial.store l.store;
  next : next_of l.store ≡ next_of l.initial.store;
}
