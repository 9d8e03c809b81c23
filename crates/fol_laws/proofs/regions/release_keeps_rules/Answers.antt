use Rattle.fol_laws.proofs.RegionLaws.{release_keeps_rules}
use Rattle.fol_laws.proofs.regions.release_keeps_rules.Goals as goal

pub returns : goal.returns
returns c = release_keeps_rules
