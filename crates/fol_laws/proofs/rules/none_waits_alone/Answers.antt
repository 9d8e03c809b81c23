use Rattle.fol_laws.proofs.RuleLaws.{none_waits_alone}
use Rattle.fol_laws.proofs.rules.none_waits_alone.Goals as goal

pub returns : goal.returns
returns c = none_waits_alone
