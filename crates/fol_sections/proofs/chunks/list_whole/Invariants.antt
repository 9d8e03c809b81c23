use Rattle.std.proofs.Common.{◌≡◌, ◌++◌}
use Rattle.std.specs.Vec.{vec_capacity}
use Rattle.fol_sections.specs.Rows.{chunk_at, rows_of}
use Rattle.fol_sections.proofs.chunks.list_whole.Given as goal

abbrev pub invariant-loop-row : goal.invariant-loop-row
invariant-loop-row l = record {
  listed : l.out.items ≡ l.initial.out.items ++ rows_of chunk_at l.first.x l.first.z l.row l.side;
  capacity : vec_capacity l.out ≡ vec_capacity l.initial.out;
}
