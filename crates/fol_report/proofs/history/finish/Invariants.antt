use Rattle.std.proofs.Common.{◌≡◌, ◌+◌, ◌≤◌, ◌++◌, length, Some}
use Rattle.fol_report.specs.Histories.{line_left}
use Rattle.fol_report.specs.Rests.{rest_words}
use Rattle.fol_report.proofs.history.finish.Given as goal

abbrev pub invariant-loop-left : goal.invariant-loop-left
invariant-loop-left l = record {
  text : l.page ++ line_left (Some l.left) ≡ l.initial.page ++ line_left (Some l.rest);
  room : length l.page + 1 ≤ 1024;
  never_shrinks : length l.initial.page ≤ length l.page;
}

abbrev pub decreases-loop-left : goal.decreases-loop-left
decreases-loop-left l = length (rest_words l.left)
