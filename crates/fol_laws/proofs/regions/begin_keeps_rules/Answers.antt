use Rattle.fol_laws.proofs.RegionLaws.{begin_keeps_rules}
use Rattle.fol_laws.proofs.regions.begin_keeps_rules.Goals as goal

pub returns : goal.returns
returns c = begin_keeps_rules
