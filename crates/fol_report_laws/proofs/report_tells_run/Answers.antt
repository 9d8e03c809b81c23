use Rattle.fol_report_laws.proofs.TellsEvents.{report_tells_run}
use Rattle.fol_report_laws.proofs.report_tells_run.Goals as goal

pub returns : goal.returns
returns c = report_tells_run
