use Rattle.fol_laws.proofs.HistoryLaws.{by_is_not_read}
use Rattle.fol_laws.proofs.histories.by_is_not_read.Goals as goal

pub returns : goal.returns
returns c = by_is_not_read
