use Rattle.fol_gen.proofs.MadeLines.{spells_a_script}
use Rattle.fol_gen.proofs.laws.made_script_law.Goals as goal

pub returns : goal.returns
returns c = spells_a_script
