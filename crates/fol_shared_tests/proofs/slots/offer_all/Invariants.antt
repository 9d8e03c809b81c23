use Rattle.std.proofs.Common.{◌≡◌, ◌<◌, ◌≤◌, ℕ, IsSome}
use Rattle.fol_slots.specs.Shown.{place_at}
use Rattle.fol_slots.specs.Table.{slots_id}
use Rattle.fol_shared_tests.proofs.slots.offer_all.Given as goal

abbrev pub invariant-loop-i : goal.invariant-loop-i
invariant-loop-i l = record {
  slots : l.keeper.slots ≡ slots_id l.slots;
  kept : (k : ℕ) → l.i ≤ k → k < 16 → IsSome (place_at l.keeper k).kept;
}
