use Rattle.fol_text_laws.proofs.ScriptLaws.{script_printed}
use Rattle.fol_text_laws.proofs.script_printed.Goals as goal

pub returns : goal.returns
returns c = script_printed
