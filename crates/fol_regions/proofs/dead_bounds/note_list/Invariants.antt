use Rattle.std.proofs.Common.{ℕ, ◌+◌, ◌≤◌, ◌<◌, length}
use Rattle.std.specs.Prelude.{min, count_by, nat_eq}
use Rattle.fol_model.specs.declared.places.TheConstants.{MOST_SECTIONS}
use Rattle.fol_region_tables.specs.Book.{owner_of}
use Rattle.fol_regions.specs.DeadBounds.{most_in}
use Rattle.fol_regions.proofs.dead_bounds.note_list.Given as goal

abbrev pub invariant-loop-rest : goal.invariant-loop-rest
invariant-loop-rest l = (r : ℕ) → 0 < r
    → min MOST_SECTIONS (most_in l.initial.known r + count_by (λ s. nat_eq (owner_of l.tables s) r) l.fn.list)
    ≤ min MOST_SECTIONS (most_in l.known r + count_by (λ s. nat_eq (owner_of l.tables s) r) l.rest)

abbrev pub decreases-loop-rest : goal.decreases-loop-rest
decreases-loop-rest l = length l.rest
