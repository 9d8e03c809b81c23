use Rattle.fol_early_laws.proofs.EarlyEvents.{comes_early}
use Rattle.fol_early_laws.proofs.begin_comes_early.Goals as goal

pub returns : goal.returns
returns c = comes_early
