use Rattle.fol_events.proofs.OneReading.{one_history}
use Rattle.fol_events.proofs.one_history.Goals as goal

pub returns : goal.returns
returns c = one_history
