use Rattle.std.proofs.Common.{◌+◌, ◌≤◌, length}
use Rattle.std.specs.Vec.{vec_capacity}
use Rattle.fol_region_tables.specs.Rows.{MovesFront}
use Rattle.fol_region_tables.proofs.weave.put_before.Given as goal

abbrev pub invariant-loop-first : goal.invariant-loop-first
invariant-loop-first l = record {
  moved : MovesFront l.s l.sections l.fn.out.items l.out.items l.left;
  room : length l.out.items + length l.left ≤ vec_capacity l.out;
  capacity : vec_capacity l.fn.out ≤ vec_capacity l.out;
}

abbrev pub decreases-loop-first : goal.decreases-loop-first
decreases-loop-first l = length l.left
