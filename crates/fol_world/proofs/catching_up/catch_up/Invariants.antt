use Rattle.std.proofs.Common.{◌≡◌, ◌≤◌, true, false, filter, length}
use Rattle.fol_model.specs.ActionStep.{at_id}
use Rattle.fol_model.specs.Universe.{all_chunks}
use Rattle.fol_model.specs.Outputs.{is_chunk_of}
use Rattle.fol_regions.specs.Table.{grid_state}
use Rattle.fol_store.specs.Stock.{bag_of, next_of}
use Rattle.fol_world.specs.Bags.{KeepsUp}
use Rattle.fol_world.specs.Same.{SameThings}
use Rattle.fol_world.proofs.catching_up.catch_up.Given as goal

abbrev pub invariant-loop-c : goal.invariant-loop-c
invariant-loop-c l = record {
  here : (bag_of l.store l.region).here ≡ true;
  home : (bag_of l.store l.region).taken ≡ false;
  counter : (bag_of l.store l.region).tick ≡ (bag_of l.initial.store l.region).tick;
  owes : (bag_of l.store l.region).owed ≡ (bag_of l.initial.store l.region).owed;
  follows : (bag_of l.store l.region).listed ≡ true → KeepsUp (bag_of l.store l.region) (filter (is_chunk_of (grid_state l.regions) l.region) all_chunks);
  bags : bag_of l.store ≡ at_id (bag_of l.initial.store) l.region (bag_of l.store l.region);
  things : SameThings l.initial.store l.store;
  next : next_of l.store ≡ next_of l.initial.store;
  slots : l.initial.store.slots ≤ l.store.slots;
}

abbrev pub decreases-loop-c : goal.decreases-loop-c
decreases-loop-c l = length (bag_of l.store l.region).since
