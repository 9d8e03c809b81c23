use Rattle.fol_laws.proofs.DueLaws.{each_task_is_due}
use Rattle.fol_laws.proofs.due.each_task_is_due.Goals as goal

pub returns : goal.returns
returns c = each_task_is_due
