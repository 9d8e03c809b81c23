use Rattle.fol_text_laws.proofs.WorldLaws.{world_gives_opening}
use Rattle.fol_text_laws.proofs.world_gives_opening.Goals as goal

pub returns : goal.returns
returns c = world_gives_opening
