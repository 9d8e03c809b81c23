use Rattle.fol_text_laws.proofs.ScriptLaws.{one_script}
use Rattle.fol_text_laws.proofs.one_script.Goals as goal

pub returns : goal.returns
returns c = one_script
