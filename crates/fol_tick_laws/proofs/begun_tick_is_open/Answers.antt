use Rattle.fol_tick_laws.proofs.OpenTicks.{opens}
use Rattle.fol_tick_laws.proofs.begun_tick_is_open.Goals as goal

pub returns : goal.returns
returns c = opens
