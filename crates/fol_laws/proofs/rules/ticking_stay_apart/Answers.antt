use Rattle.fol_laws.proofs.RuleLaws.{ticking_stay_apart}
use Rattle.fol_laws.proofs.rules.ticking_stay_apart.Goals as goal

pub returns : goal.returns
returns c = ticking_stay_apart
