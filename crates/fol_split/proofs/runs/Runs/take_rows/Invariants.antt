use Rattle.fol_split.specs.Runs.{TakesRuns, is_met_in, run_at}
use Rattle.fol_split.proofs.runs.Runs.take_rows.Given as goal

abbrev pub invariant-loop-row : goal.invariant-loop-row
invariant-loop-row l = TakesRuns l.initial.self l.self (λ k. is_met_in l.window.z l.row l.window.from l.window.to (run_at l.initial.self.runs k))
