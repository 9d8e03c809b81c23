use Rattle.fol_laws.proofs.RuleLaws.{rules_hold}
use Rattle.fol_laws.proofs.rules.rules_hold.Goals as goal

pub returns : goal.returns
returns c = rules_hold
