use Rattle.std.proofs.Common.{ℕ, ◌+◌, ◌≤◌, length}
use Rattle.std.specs.Prelude.{min, count_by, nat_eq}
use Rattle.fol_model.specs.declared.places.TheConstants.{MOST_SECTIONS}
use Rattle.fol_regions.specs.DeadBounds.{most_in}
use Rattle.fol_regions.proofs.dead_bounds.note_run.Given as goal

abbrev pub invariant-loop-rest : goal.invariant-loop-rest
invariant-loop-rest l = record {
  few : length l.rest ≤ 32;
  noted : (r : ℕ) → min MOST_SECTIONS (most_in l.initial.known r + count_by (λ id. nat_eq id r) l.fn.ids) ≤ min MOST_SECTIONS (most_in l.known r + count_by (λ id. nat_eq id r) l.rest);
}

abbrev pub decreases-loop-rest : goal.decreases-loop-rest
decreases-loop-rest l = length l.rest
