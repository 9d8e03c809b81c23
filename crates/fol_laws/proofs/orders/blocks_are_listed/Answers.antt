use Rattle.fol_laws.proofs.OrderLaws.{blocks_are_listed}
use Rattle.fol_laws.proofs.orders.blocks_are_listed.Goals as goal

pub returns : goal.returns
returns c = blocks_are_listed
