use Rattle.fol_tick_laws.proofs.Touching.{touched_within}
use Rattle.fol_tick_laws.proofs.what_is_touched_may_be.Goals as goal

pub returns : goal.returns
returns c = touched_within
