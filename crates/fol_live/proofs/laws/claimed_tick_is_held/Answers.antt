use Rattle.fol_live.proofs.HeldTicks.{claimed_held}
use Rattle.fol_live.proofs.laws.claimed_tick_is_held.Goals as goal

pub returns : goal.returns
returns c = claimed_held
