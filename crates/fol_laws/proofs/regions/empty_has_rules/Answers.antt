use Rattle.fol_laws.proofs.RegionLaws.{empty_has_rules}
use Rattle.fol_laws.proofs.regions.empty_has_rules.Goals as goal

pub returns : goal.returns
returns c = empty_has_rules
