use Rattle.fol_laws.proofs.RegionLaws.{rules_keep_live_few}
use Rattle.fol_laws.proofs.regions.rules_keep_live_few.Goals as goal

pub returns : goal.returns
returns c = rules_keep_live_few
