use Rattle.fol_laws.proofs.MoreWorkers.{legal_of_more}
use Rattle.fol_laws.proofs.histories.legal_of_more.Goals as goal

pub returns : goal.returns
returns c = legal_of_more
