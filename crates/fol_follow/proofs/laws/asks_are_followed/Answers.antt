use Rattle.fol_follow.proofs.Fates.{asks_followed}
use Rattle.fol_follow.proofs.laws.asks_are_followed.Goals as goal

pub returns : goal.returns
returns c = asks_followed
