use Rattle.fol_early_laws.proofs.EarlyEvents.{events_meet}
use Rattle.fol_early_laws.proofs.events_meet_early_begins.Goals as goal

pub returns : goal.returns
returns c = events_meet
