use Rattle.fol_laws.proofs.RegionLaws.{rules_keep_ticking_apart}
use Rattle.fol_laws.proofs.regions.rules_keep_ticking_apart.Goals as goal

pub returns : goal.returns
returns c = rules_keep_ticking_apart
