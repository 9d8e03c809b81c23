use Rattle.fol_events.proofs.OneReading.{no_fault}
use Rattle.fol_events.proofs.no_fault.Goals as goal

pub returns : goal.returns
returns c = no_fault
