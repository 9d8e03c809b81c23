use Rattle.fol_laws.proofs.RuleLaws.{ready_margin_holds}
use Rattle.fol_laws.proofs.rules.ready_margin_holds.Goals as goal

pub returns : goal.returns
returns c = ready_margin_holds
