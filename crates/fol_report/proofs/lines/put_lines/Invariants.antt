use Rattle.std.proofs.Common.{◌≡◌, ◌++◌, string_bytes, take}
use Rattle.fol_report.specs.Spaced.{marked}
use Rattle.fol_report.proofs.lines.put_lines.Given as goal

abbrev pub invariant-loop-row : goal.invariant-loop-row
invariant-loop-row g l = string_bytes l.out ≡ string_bytes l.initial.out ++ marked l.mark g.R.Line.words (take l.row-index l.rows)
