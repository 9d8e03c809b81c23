use Rattle.fol_laws.proofs.OrderLaws.{chunks_are_listed}
use Rattle.fol_laws.proofs.orders.chunks_are_listed.Goals as goal

pub returns : goal.returns
returns c = chunks_are_listed
