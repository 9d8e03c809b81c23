use Rattle.std.proofs.Common.{◌≡◌, ◌≤◌, ◌-◌, ◌+◌, length, drop}
use Rattle.std.specs.Prelude.{nat_eq}
use Rattle.std.specs.List.{common_prefix_len}
use Rattle.fol_check.proofs.verdicts.common_length.Given as goal

abbrev pub invariant-bytes : goal.invariant-bytes
invariant-bytes l = record {
  first : l.place ≤ length l.a;
  second : l.place ≤ length l.b;
  so_far : l.place + common_prefix_len nat_eq (drop l.place l.a) (drop l.place l.b) ≡ common_prefix_len nat_eq l.a l.b;
}

abbrev pub decreases-bytes : goal.decreases-bytes
decreases-bytes l = length l.a - l.place
