use Rattle.fol_early_laws.proofs.EarlyEvents.{is_met}
use Rattle.fol_early_laws.proofs.early_begin_is_met.Goals as goal

pub returns : goal.returns
returns c = is_met
