use Rattle.fol_split.specs.Runs.{TakesRuns, is_met_in, run_at}
use Rattle.fol_split.proofs.Taking.{passed}
use Rattle.fol_split.proofs.runs.Runs.take_each.Given as goal

abbrev pub invariant-loop-k : goal.invariant-loop-k
invariant-loop-k l = TakesRuns l.initial.self l.self (passed (λ j. is_met_in l.window.z l.rows l.window.from l.window.to (run_at l.initial.self.runs j)) l.k)
