use Rattle.fol_tick_laws.proofs.OpenTicks.{open_more}
use Rattle.fol_tick_laws.proofs.only_its_end_closes_a_tick.Goals as goal

pub returns : goal.returns
returns c = open_more
