use Rattle.fol_tick_laws.proofs.OpenTicks.{may_run_open}
use Rattle.fol_tick_laws.proofs.open_tick_may_run.Goals as goal

pub returns : goal.returns
returns c = may_run_open
