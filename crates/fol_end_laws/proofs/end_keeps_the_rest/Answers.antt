use Rattle.fol_end_laws.proofs.FinishedTicks.{rest_kept}
use Rattle.fol_end_laws.proofs.end_keeps_the_rest.Goals as goal

pub returns : goal.returns
returns c = rest_kept
