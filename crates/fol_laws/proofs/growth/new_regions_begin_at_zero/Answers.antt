use Rattle.fol_laws.proofs.GrowthLaws.{new_regions_begin_at_zero}
use Rattle.fol_laws.proofs.growth.new_regions_begin_at_zero.Goals as goal

pub returns : goal.returns
returns c = new_regions_begin_at_zero
