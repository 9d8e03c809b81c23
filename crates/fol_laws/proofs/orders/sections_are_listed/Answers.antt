use Rattle.fol_laws.proofs.OrderLaws.{sections_are_listed}
use Rattle.fol_laws.proofs.orders.sections_are_listed.Goals as goal

pub returns : goal.returns
returns c = sections_are_listed
