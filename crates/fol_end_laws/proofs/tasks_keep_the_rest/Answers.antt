use Rattle.fol_end_laws.proofs.FinishedTicks.{tasks_kept}
use Rattle.fol_end_laws.proofs.tasks_keep_the_rest.Goals as goal

pub returns : goal.returns
returns c = tasks_kept
