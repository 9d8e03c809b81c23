use Rattle.fol_live.proofs.LateBegins.{late_keep_open}
use Rattle.fol_live.proofs.laws.late_begins_keep_ticks_open.Goals as goal

pub returns : goal.returns
returns c = late_keep_open
