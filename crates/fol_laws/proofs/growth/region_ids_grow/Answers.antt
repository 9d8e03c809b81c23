use Rattle.fol_laws.proofs.GrowthLaws.{region_ids_grow}
use Rattle.fol_laws.proofs.growth.region_ids_grow.Goals as goal

pub returns : goal.returns
returns c = region_ids_grow
