use Rattle.fol_report_laws.proofs.JsonTells.{json_tells_events}
use Rattle.fol_report_laws.proofs.json_tells_events.Goals as goal

pub returns : goal.returns
returns c = json_tells_events
