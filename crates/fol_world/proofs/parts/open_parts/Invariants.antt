use Rattle.std.proofs.Common.{◌≡◌, ◌+◌, ◌≤◌, drop, length}
use Rattle.fol_store.specs.Stock.{bag_of, next_of}
use Rattle.fol_world.specs.Bags.{Follow}
use Rattle.fol_world.specs.Released.{opened_parts}
use Rattle.fol_world.specs.Same.{SameThings}
use Rattle.fol_world.proofs.parts.open_parts.Given as goal

abbrev pub invariant-loop-id : goal.invariant-loop-id
invariant-loop-id l =
    (opened_parts l.tick l.owed (drop l.id-index l.parts) (bag_of l.store) ≡ opened_parts l.tick l.owed l.parts (bag_of l.initial.store))
    × Follow (next_of l.store) (drop l.id-index l.parts)
    × SameThings l.initial.store l.store
    × (next_of l.store ≡ next_of l.initial.store + l.id-index)
    × (length l.parts ≤ l.store.slots + l.id-index)
