use Rattle.std.proofs.Common.{◌≡◌, ℕ, ◌-◌, ◌<◌, ◌≤◌, true, ◌&&◌, length}
use Rattle.std.specs.Prelude.{nat_le, nat_lt}
use Rattle.fol_split.specs.Runs.{TakesRuns, run_at, begins_before}
use Rattle.fol_split.proofs.runs.Runs.take_row.Given as goal

abbrev pub invariant-loop-window : goal.invariant-loop-window
invariant-loop-window l = record {
  rising : l.initial.k ≤ l.k;
  takes : TakesRuns l.fn.self l.self (λ j. nat_le l.initial.k j && nat_lt j l.k);
  begun : (j : ℕ) → l.initial.k ≤ j → j < l.k → begins_before l.window.z l.window.to (run_at l.fn.self.runs j) ≡ true;
}

abbrev pub decreases-loop-window : goal.decreases-loop-window
decreases-loop-window l = length l.fn.self.runs - l.k
