use Rattle.fol_end_laws.proofs.FinishedTicks.{finished_ends}
use Rattle.fol_end_laws.proofs.finished_tick_is_the_end.Goals as goal

pub returns : goal.returns
returns c = finished_ends
