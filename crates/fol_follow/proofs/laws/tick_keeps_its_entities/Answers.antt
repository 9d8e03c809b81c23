use Rattle.fol_follow.proofs.Follows.{tick_keeps_its_entities}
use Rattle.fol_follow.proofs.laws.tick_keeps_its_entities.Goals as goal

pub returns : goal.returns
returns c = tick_keeps_its_entities
