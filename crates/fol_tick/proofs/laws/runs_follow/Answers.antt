use Rattle.fol_tick.proofs.TickLaws.{runs_follow}
use Rattle.fol_tick.proofs.laws.runs_follow.Goals as goal

pub returns : goal.returns
returns c = runs_follow
