use Rattle.fol_tick_laws.proofs.OpenTicks.{out_when_run}
use Rattle.fol_tick_laws.proofs.finished_tick_is_out.Goals as goal

pub returns : goal.returns
returns c = out_when_run
