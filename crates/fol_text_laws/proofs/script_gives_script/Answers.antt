use Rattle.fol_text_laws.proofs.ScriptLaws.{script_gives_script}
use Rattle.fol_text_laws.proofs.script_gives_script.Goals as goal

pub returns : goal.returns
returns c = script_gives_script
