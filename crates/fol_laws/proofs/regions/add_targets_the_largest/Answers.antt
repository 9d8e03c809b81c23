use Rattle.fol_laws.proofs.RegionLaws.{add_targets_the_largest}
use Rattle.fol_laws.proofs.regions.add_targets_the_largest.Goals as goal

pub returns : goal.returns
returns c = add_targets_the_largest
