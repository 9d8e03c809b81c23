use Rattle.fol_text_laws.proofs.WorldLaws.{world_printed}
use Rattle.fol_text_laws.proofs.world_printed.Goals as goal

pub returns : goal.returns
returns c = world_printed
