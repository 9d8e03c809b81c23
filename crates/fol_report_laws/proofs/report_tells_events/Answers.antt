use Rattle.fol_report_laws.proofs.TellsEvents.{report_tells_events}
use Rattle.fol_report_laws.proofs.report_tells_events.Goals as goal

pub returns : goal.returns
returns c = report_tells_events
