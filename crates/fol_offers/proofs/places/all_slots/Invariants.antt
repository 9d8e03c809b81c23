use Rattle.std.proofs.Common.{◌≡◌, ℕ, ◌<◌, ◌≤◌, ◌-◌}
use Rattle.std.specs.Vec.{vec_len, vec_capacity}
use Rattle.fol_offers.specs.Places.{slot_at}
use Rattle.fol_offers.proofs.places.all_slots.Given as goal

abbrev pub invariant-loop-i : goal.invariant-loop-i
invariant-loop-i l = record {
  count : vec_len l.slots ≡ l.i;
  room : l.count ≤ vec_capacity l.slots;
  each : (k : ℕ) → k < l.i → slot_at l.slots.items k ≡ l.count - 1 - k;
}
