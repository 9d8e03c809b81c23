use Rattle.std.proofs.Common.{◌≡◌, length}
use Rattle.fol_store.specs.Stock.{bag_of}
use Rattle.fol_store.specs.Steps.{SameMeaning}
use Rattle.fol_store.proofs.store.Store.hand_out.Given as goal

abbrev pub invariant-loop-self : goal.invariant-loop-self
invariant-loop-self l = record {
  same : SameMeaning l.fn.self l.self;
  bags : bag_of l.self ≡ bag_of l.fn.self;
}

abbrev pub decreases-loop-self : goal.decreases-loop-self
decreases-loop-self l = length l.self.arrivals
