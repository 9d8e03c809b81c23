use Rattle.std.proofs.Common.{ℕ, ◌≤◌, take}
use Rattle.std.specs.Prelude.{min, if◌then◌else◌}
use Rattle.fol_model.specs.declared.places.TheConstants.{MOST_SECTIONS}
use Rattle.fol_regions.specs.Added.{is_id}
use Rattle.fol_regions.specs.DeadBounds.{most_in}
use Rattle.fol_regions.proofs.dead_bounds.note_created.Given as goal

abbrev pub invariant-loop-id : goal.invariant-loop-id
invariant-loop-id l = (r : ℕ) → (if is_id (take l.id-index l.ids) r then 0 else min MOST_SECTIONS (most_in l.initial.bounds r)) ≤ most_in l.bounds r
