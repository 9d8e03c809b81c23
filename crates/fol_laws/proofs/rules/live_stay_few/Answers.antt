use Rattle.fol_laws.proofs.RuleLaws.{live_stay_few}
use Rattle.fol_laws.proofs.rules.live_stay_few.Goals as goal

pub returns : goal.returns
returns c = live_stay_few
