use Rattle.std.proofs.Common.{◌≡◌, ℕ, ◌-◌, ◌+◌, ◌≤◌, vec_capacity}
use Rattle.std.specs.Prelude.{vec_len}
use Rattle.fol_model.specs.declared.places.TheConstants.{MOST_SECTIONS}
use Rattle.fol_regions.specs.DeadBounds.{most_in}
use Rattle.fol_regions.proofs.dead_bounds.add.Given as goal

abbrev pub invariant-loop-nothing : goal.invariant-loop-nothing
invariant-loop-nothing l = record {
  same : (r : ℕ) → most_in l.known.items r ≡ most_in l.initial.known.items r;
  memory : MOST_SECTIONS ≤ vec_capacity l.known;
  capacity : vec_capacity l.initial.known ≤ vec_capacity l.known;
}

abbrev pub decreases-loop-nothing : goal.decreases-loop-nothing
decreases-loop-nothing l = l.at + 1 - vec_len l.known
