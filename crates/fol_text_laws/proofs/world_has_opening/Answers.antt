use Rattle.fol_text_laws.proofs.WorldLaws.{world_has_opening}
use Rattle.fol_text_laws.proofs.world_has_opening.Goals as goal

pub returns : goal.returns
returns c = world_has_opening
