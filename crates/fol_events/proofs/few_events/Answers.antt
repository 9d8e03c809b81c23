use Rattle.fol_events.proofs.OneReading.{few_events}
use Rattle.fol_events.proofs.few_events.Goals as goal

pub returns : goal.returns
returns c = few_events
