use Rattle.fol_follow.proofs.Follows.{visit_tells_the_end}
use Rattle.fol_follow.proofs.laws.visit_tells_the_end.Goals as goal

pub returns : goal.returns
returns c = visit_tells_the_end
