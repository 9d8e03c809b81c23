use Rattle.fol_laws.proofs.GrowthLaws.{each_task_is_within_limits}
use Rattle.fol_laws.proofs.growth.each_task_is_within_limits.Goals as goal

pub returns : goal.returns
returns c = each_task_is_within_limits
