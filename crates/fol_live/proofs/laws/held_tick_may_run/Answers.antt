use Rattle.fol_live.proofs.HeldTicks.{held_may_run}
use Rattle.fol_live.proofs.laws.held_tick_may_run.Goals as goal

pub returns : goal.returns
returns c = held_may_run
