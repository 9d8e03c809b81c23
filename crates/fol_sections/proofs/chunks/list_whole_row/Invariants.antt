use Rattle.std.proofs.Common.{◌≡◌, ◌++◌}
use Rattle.std.specs.Prelude.{pos, ◌+ℤ◌}
use Rattle.std.specs.Vec.{vec_capacity}
use Rattle.fol_sections.specs.Rows.{chunk_at, row_of}
use Rattle.fol_sections.proofs.chunks.list_whole_row.Given as goal

abbrev pub invariant-loop-i : goal.invariant-loop-i
invariant-loop-i l = record {
  listed : l.out.items ≡ l.initial.out.items ++ row_of chunk_at l.first.x (l.first.z +ℤ pos l.row) l.i;
  capacity : vec_capacity l.out ≡ vec_capacity l.initial.out;
}
