use Rattle.fol_laws.proofs.GrowthLaws.{each_task_is_below_next}
use Rattle.fol_laws.proofs.growth.each_task_is_below_next.Goals as goal

pub returns : goal.returns
returns c = each_task_is_below_next
