use Rattle.fol_laws.proofs.RegionLaws.{rules_let_none_wait_alone}
use Rattle.fol_laws.proofs.regions.rules_let_none_wait_alone.Goals as goal

pub returns : goal.returns
returns c = rules_let_none_wait_alone
