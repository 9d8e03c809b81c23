use Rattle.fol_laws.proofs.HoldLaws.{each_task_is_owned}
use Rattle.fol_laws.proofs.holds.each_task_is_owned.Goals as goal

pub returns : goal.returns
returns c = each_task_is_owned
