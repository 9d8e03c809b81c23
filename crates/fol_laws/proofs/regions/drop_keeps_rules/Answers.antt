use Rattle.fol_laws.proofs.RegionLaws.{drop_keeps_rules}
use Rattle.fol_laws.proofs.regions.drop_keeps_rules.Goals as goal

pub returns : goal.returns
returns c = drop_keeps_rules
