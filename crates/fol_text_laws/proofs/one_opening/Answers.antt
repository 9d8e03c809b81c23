use Rattle.fol_text_laws.proofs.WorldLaws.{one_opening}
use Rattle.fol_text_laws.proofs.one_opening.Goals as goal

pub returns : goal.returns
returns c = one_opening
