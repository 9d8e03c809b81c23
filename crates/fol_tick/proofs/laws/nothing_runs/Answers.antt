use Rattle.fol_tick.proofs.TickLaws.{nothing_runs}
use Rattle.fol_tick.proofs.laws.nothing_runs.Goals as goal

pub returns : goal.returns
returns c = nothing_runs
