use Rattle.fol_laws.proofs.DetachedLaws.{tick_is_detached}
use Rattle.fol_laws.proofs.detached.tick_is_detached.Goals as goal

pub returns : goal.returns
returns c = tick_is_detached
