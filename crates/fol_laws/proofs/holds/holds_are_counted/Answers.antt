use Rattle.fol_laws.proofs.HoldLaws.{holds_are_counted}
use Rattle.fol_laws.proofs.holds.holds_are_counted.Goals as goal

pub returns : goal.returns
returns c = holds_are_counted
