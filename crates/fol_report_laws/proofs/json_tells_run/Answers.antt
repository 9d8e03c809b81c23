use Rattle.fol_report_laws.proofs.JsonTells.{json_tells_run}
use Rattle.fol_report_laws.proofs.json_tells_run.Goals as goal

pub returns : goal.returns
returns c = json_tells_run
