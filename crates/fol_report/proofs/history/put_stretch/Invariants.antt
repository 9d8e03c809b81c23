use Rattle.std.proofs.Common.{◌≡◌, [], ◌++◌, length, string_bytes}
use Rattle.fol_model.specs.ReportWords.{entry_words}
use Rattle.fol_report.specs.Histories.{lines_left}
use Rattle.fol_report.specs.Spaced.{joined_lines}
use Rattle.fol_report.proofs.history.put_stretch.Given as goal

abbrev pub invariant-loop-lines : goal.invariant-loop-lines
invariant-loop-lines l = record {
  page : l.lines.page ≡ [];
  given : l.lines.given ≡ 0;
  text : string_bytes l.out ++ lines_left l.lines ≡ string_bytes l.initial.out ++ joined_lines entry_words l.rows;
}

abbrev pub decreases-loop-lines : goal.decreases-loop-lines
decreases-loop-lines l = length (lines_left l.lines)
