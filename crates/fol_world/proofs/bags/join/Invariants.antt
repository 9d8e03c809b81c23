use Rattle.std.proofs.Common.{◌≡◌, ℕ, ◌≤◌, drop}
use Rattle.fol_store.specs.Bag.{Bag}
use Rattle.fol_store.specs.Stock.{bag_of, next_of}
use Rattle.fol_world.specs.Bags.{AreInOrder, CanJoin, Joins}
use Rattle.fol_world.specs.Same.{SameThings}
use Rattle.fol_world.proofs.bags.join.Given as goal

abbrev pub invariant-loop-pair : goal.invariant-loop-pair
invariant-loop-pair l =
    ((h : ℕ → Bag) → Joins (drop l.pair-index l.merges) (bag_of l.store) h → Joins l.merges (bag_of l.initial.store) h)
    × CanJoin (drop l.pair-index l.merges) (bag_of l.store)
    × AreInOrder (bag_of l.store)
    × SameThings l.initial.store l.store
    × (next_of l.store ≡ next_of l.initial.store)
    × (l.initial.store.spare ≤ l.store.spare)
    × (l.initial.store.slots ≤ l.store.slots)
