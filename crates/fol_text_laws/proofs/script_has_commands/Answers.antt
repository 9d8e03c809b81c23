use Rattle.fol_text_laws.proofs.ScriptLaws.{script_has_commands}
use Rattle.fol_text_laws.proofs.script_has_commands.Goals as goal

pub returns : goal.returns
returns c = script_has_commands
