use Rattle.fol_tick_laws.proofs.OpenTicks.{learnt_opens}
use Rattle.fol_tick_laws.proofs.learnt_tick_is_open.Goals as goal

pub returns : goal.returns
returns c = learnt_opens
