use Rattle.fol_live.proofs.HeldTicks.{run_held}
use Rattle.fol_live.proofs.laws.run_tick_may_be_released.Goals as goal

pub returns : goal.returns
returns c = run_held
