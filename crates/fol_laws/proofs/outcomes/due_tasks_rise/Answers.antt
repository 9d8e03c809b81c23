use Rattle.fol_laws.proofs.OutcomeLaws.{due_tasks_rise}
use Rattle.fol_laws.proofs.outcomes.due_tasks_rise.Goals as goal

pub returns : goal.returns
returns c = due_tasks_rise
