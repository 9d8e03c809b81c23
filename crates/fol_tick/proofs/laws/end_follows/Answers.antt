use Rattle.fol_tick.proofs.TickLaws.{end_follows}
use Rattle.fol_tick.proofs.laws.end_follows.Goals as goal

pub returns : goal.returns
returns c = end_follows
