use Rattle.std.proofs.Common.{◌≡◌, ℕ, ◌<◌, ◌≤◌, false}
use Rattle.fol_core.specs.Meaning.{is_prepared}
use Rattle.fol_offers.specs.Places.{region_at}
use Rattle.fol_offers.proofs.recalls.first_prepared.Given as goal

abbrev pub invariant-loop-i : goal.invariant-loop-i
invariant-loop-i l = (j : ℕ) → l.from ≤ j → j < l.i → is_prepared l.core (region_at l.regions j) ≡ false
