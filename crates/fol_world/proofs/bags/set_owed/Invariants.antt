use Rattle.std.proofs.Common.{◌≡◌, true, drop}
use Rattle.std.specs.List.{AllByRecursion}
use Rattle.fol_store.specs.Stock.{bag_of, next_of}
use Rattle.fol_world.specs.Bags.{owing_bags}
use Rattle.fol_world.specs.Same.{SameThings}
use Rattle.fol_world.proofs.bags.set_owed.Given as goal

abbrev pub invariant-loop-id : goal.invariant-loop-id
invariant-loop-id l =
    (owing_bags l.n (drop l.id-index l.ids) (bag_of l.store) ≡ owing_bags l.n l.ids (bag_of l.initial.store))
    × AllByRecursion (λ r. (bag_of l.store r).here ≡ true) (drop l.id-index l.ids)
    × SameThings l.initial.store l.store
    × (next_of l.store ≡ next_of l.initial.store)
    × (l.store.spare ≡ l.initial.store.spare)
