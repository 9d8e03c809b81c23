use Rattle.fol_laws.proofs.RegionLaws.{add_keeps_rules}
use Rattle.fol_laws.proofs.regions.add_keeps_rules.Goals as goal

pub returns : goal.returns
returns c = add_keeps_rules
