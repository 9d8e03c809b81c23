use Rattle.std.proofs.Common.{◌≡◌, ◌≤◌, ◌++◌}
use Rattle.std.specs.Prelude.{◌-ℤ◌, ◌≤ℤ◌, nat_abs}
use Rattle.std.specs.Vec.{vec_capacity}
use Rattle.fol_split.proofs.Rows.{row}
use Rattle.fol_split.proofs.runs.append_run.Given as goal

abbrev pub invariant-loop-x : goal.invariant-loop-x
invariant-loop-x l = record {
  low : l.run.from ≤ℤ l.x;
  high : l.x ≤ℤ l.run.to;
  found : l.found.items ≡ l.fn.found.items ++ row l.run.z l.run.from (nat_abs (l.x -ℤ l.run.from));
  room : vec_capacity l.fn.found ≤ vec_capacity l.found;
}
