use Rattle.std.proofs.Common.{◌≡◌, ◌≤◌, ◌++◌, length}
use Rattle.fol_model.specs.ReportWords.{entry_words}
use Rattle.fol_report.specs.Spaced.{joined_lines}
use Rattle.fol_report.proofs.history.push_edges.Given as goal

abbrev pub invariant-loop-row : goal.invariant-loop-row
invariant-loop-row l = record {
  text : l.page ++ joined_lines entry_words l.left ≡ l.initial.page ++ joined_lines entry_words l.rows;
  len : length l.page ≤ 1024;
  never_shrinks : length l.initial.page ≤ length l.page;
}

abbrev pub decreases-loop-row : goal.decreases-loop-row
decreases-loop-row l = length l.left
