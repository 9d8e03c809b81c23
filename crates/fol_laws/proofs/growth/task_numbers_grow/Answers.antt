use Rattle.fol_laws.proofs.GrowthLaws.{task_numbers_grow}
use Rattle.fol_laws.proofs.growth.task_numbers_grow.Goals as goal

pub returns : goal.returns
returns c = task_numbers_grow
