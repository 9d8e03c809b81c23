use Rattle.std.proofs.Common.{◌≡◌, ◌+◌, ◌≤◌, not, length}
use Rattle.std.specs.List.{count_by}
use Rattle.fol_model.specs.Universe.{square}
use Rattle.fol_sections.specs.Pages.{is_here}
use Rattle.fol_sections.specs.SquareRuns.{rest}
use Rattle.fol_sections.proofs.missing.count_missing.Given as goal

abbrev pub invariant-loop-first : goal.invariant-loop-first
invariant-loop-first l = record {
  count : l.count + count_by (λ q. not (is_here l.pages.entries q)) (rest l.runs) ≡ count_by (λ q. not (is_here l.pages.entries q)) (square l.fn.s l.fn.radius);
  few : l.count + length (rest l.runs) ≤ 289;
}

abbrev pub decreases-loop-first : goal.decreases-loop-first
decreases-loop-first l = length (rest l.runs)
