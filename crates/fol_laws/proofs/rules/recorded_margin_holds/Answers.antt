use Rattle.fol_laws.proofs.RuleLaws.{recorded_margin_holds}
use Rattle.fol_laws.proofs.rules.recorded_margin_holds.Goals as goal

pub returns : goal.returns
returns c = recorded_margin_holds
