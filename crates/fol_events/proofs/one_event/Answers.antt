use Rattle.fol_events.proofs.OneReading.{one_event}
use Rattle.fol_events.proofs.one_event.Goals as goal

pub returns : goal.returns
returns c = one_event
