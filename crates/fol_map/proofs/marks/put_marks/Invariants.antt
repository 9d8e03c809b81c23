use Rattle.std.proofs.Common.{◌≡◌, ◌++◌, flat_map, string_bytes, take}
use Rattle.fol_map.proofs.marks.put_marks.Given as goal

abbrev pub invariant-loop-row : goal.invariant-loop-row
invariant-loop-row g l = string_bytes l.out ≡ string_bytes l.initial.out ++ flat_map (g.M.Mark.mark l.layout) (take l.row-index l.rows)
