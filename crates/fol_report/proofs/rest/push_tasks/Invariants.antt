use Rattle.std.proofs.Common.{◌≡◌, ◌+◌, ◌≤◌, ◌++◌, flat_map, length}
use Rattle.fol_model.specs.ReportWords.{ran_words}
use Rattle.fol_report.specs.Spaced.{spaced}
use Rattle.fol_report.proofs.rest.push_tasks.Given as goal

abbrev pub invariant-loop-left : goal.invariant-loop-left
invariant-loop-left l = record {
  text : l.page ++ spaced (flat_map ran_words l.left) ≡ l.initial.page ++ spaced (flat_map ran_words l.ran);
  len : length l.page + 1 ≤ 1024;
  never_shrinks : length l.initial.page ≤ length l.page;
  no_more : length (flat_map ran_words l.left) ≤ length (flat_map ran_words l.ran);
}

abbrev pub decreases-loop-left : goal.decreases-loop-left
decreases-loop-left l = length l.left
