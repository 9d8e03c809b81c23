use Rattle.fol_offers.proofs.FitTicks.{fit_may_run}
use Rattle.fol_offers.proofs.offered_tick_may_run.Goals as goal

pub returns : goal.returns
returns c = fit_may_run
