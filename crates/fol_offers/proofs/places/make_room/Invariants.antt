use Rattle.std.proofs.Common.{◌≡◌, ℕ, ◌+◌, ◌-◌}
use Rattle.std.specs.Vec.{vec_len}
use Rattle.fol_offers.specs.Places.{slot_in}
use Rattle.fol_offers.proofs.places.make_room.Given as goal

abbrev pub invariant-loop-slots : goal.invariant-loop-slots
invariant-loop-slots l = (r : ℕ) → slot_in l.slots.items r ≡ slot_in l.initial.slots.items r

abbrev pub decreases-loop-slots : goal.decreases-loop-slots
decreases-loop-slots l = l.region + 1 - vec_len l.slots
