use Rattle.fol_laws.proofs.OrderLaws.{numbers_are_listed}
use Rattle.fol_laws.proofs.orders.numbers_are_listed.Goals as goal

pub returns : goal.returns
returns c = numbers_are_listed
