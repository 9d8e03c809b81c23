use Rattle.std.proofs.Common.{◌≡◌, ◌≤◌, length}
use Rattle.fol_store.specs.Stock.{bag_of}
use Rattle.fol_store.specs.Steps.{SameMeaning}
use Rattle.fol_store.proofs.store.Store.deliver_more.Given as goal

abbrev pub invariant-loop-c : goal.invariant-loop-c
invariant-loop-c l = record {
  same : SameMeaning l.fn.self l.self;
  bags : bag_of l.self ≡ bag_of l.fn.self;
  places : l.self.places ≡ l.fn.self.places;
  len : length l.self.arrivals ≤ length l.fn.self.arrivals;
}

abbrev pub decreases-loop-c : goal.decreases-loop-c
decreases-loop-c l = length l.self.arrivals
