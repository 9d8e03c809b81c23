use Rattle.fol_laws.proofs.RegionLaws.{rules_give_margin}
use Rattle.fol_laws.proofs.regions.rules_give_margin.Goals as goal

pub returns : goal.returns
returns c = rules_give_margin
