use Rattle.std.proofs.Common.{◌≡◌, ◌+◌, ◌≤◌, drop, length}
use Rattle.fol_store.specs.Stock.{bag_of, next_of}
use Rattle.fol_world.specs.Bags.{Follow, opened_bags}
use Rattle.fol_world.specs.Same.{SameThings}
use Rattle.fol_world.proofs.bags.open_all.Given as goal

abbrev pub invariant-loop-id : goal.invariant-loop-id
invariant-loop-id l =
    (opened_bags l.tick l.owed (drop l.id-index l.ids) (bag_of l.store) ≡ opened_bags l.tick l.owed l.ids (bag_of l.initial.store))
    × Follow (next_of l.store) (drop l.id-index l.ids)
    × SameThings l.initial.store l.store
    × (next_of l.store ≡ next_of l.initial.store + l.id-index)
    × (length l.ids ≤ l.store.slots + l.id-index)
    × (l.store.spare ≡ l.initial.store.spare)
    × (l.initial.store.slots ≤ l.store.slots + l.id-index)
