use Rattle.std.proofs.Common.{◌≤◌}
use Rattle.std.specs.Vec.{vec_capacity}
use Rattle.fol_lists.proofs.Written.{IsWritten}
use Rattle.fol_lists.proofs.cells.write_all.Given as goal

abbrev pub invariant-loop-i : goal.invariant-loop-i
invariant-loop-i g l = record {
  written : IsWritten l.cells l.initial.spans l.spans l.into.items l.i;
  capacity : vec_capacity l.initial.into ≤ vec_capacity l.into;
}
