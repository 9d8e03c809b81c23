use Rattle.std.proofs.Common.{◌≡◌, ◌++◌}
use Rattle.std.specs.List.{filter}
use Rattle.std.specs.Vec.{vec_capacity}
use Rattle.fol_sections.specs.Kept.{is_held}
use Rattle.fol_sections.specs.Rows.{chunk_at, rows_of}
use Rattle.fol_sections.proofs.chunks.list_square.Given as goal

abbrev pub invariant-loop-row : goal.invariant-loop-row
invariant-loop-row l = record {
  listed : l.out.items ≡ l.initial.out.items ++ filter (is_held l.holds.entries) (rows_of chunk_at l.first.x l.first.z l.row l.side);
  capacity : vec_capacity l.out ≡ vec_capacity l.initial.out;
}
