use Rattle.std.proofs.Common.{◌≡◌, None, All}
use Rattle.fol_slots.specs.Table.{slots_id}
use Rattle.fol_shared_tests.proofs.slots.claim_from_each.Given as goal

abbrev pub invariant-loop-i : goal.invariant-loop-i
invariant-loop-i l = All (λ s. (s.slots ≡ slots_id l.slots) × (s.slot ≡ None)) l.seats.items
