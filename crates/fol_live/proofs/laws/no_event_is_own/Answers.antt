use Rattle.fol_live.proofs.OwnTurns.{none_own}
use Rattle.fol_live.proofs.laws.no_event_is_own.Goals as goal

pub returns : goal.returns
returns c = none_own
