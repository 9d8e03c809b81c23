use Rattle.fol_live.proofs.OwnTurns.{one_own}
use Rattle.fol_live.proofs.laws.one_event_is_own.Goals as goal

pub returns : goal.returns
returns c = one_own
