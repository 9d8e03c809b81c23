use Rattle.fol_tick_laws.proofs.Touching.{owner_listed}
use Rattle.fol_tick_laws.proofs.owner_is_listed_alone.Goals as goal

pub returns : goal.returns
returns c = owner_listed
