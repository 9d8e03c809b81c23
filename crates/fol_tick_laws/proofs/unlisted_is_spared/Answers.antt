use Rattle.fol_tick_laws.proofs.Touching.{unlisted_spared}
use Rattle.fol_tick_laws.proofs.unlisted_is_spared.Goals as goal

pub returns : goal.returns
returns c = unlisted_spared
