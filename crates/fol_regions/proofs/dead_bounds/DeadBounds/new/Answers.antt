use Rattle.fol_regions.proofs.BoundSteps.{most_none}
use Rattle.fol_regions.proofs.dead_bounds.DeadBounds.new.Goals as goal

pub returns : goal.returns
returns c = rw c.in_ok-with_capacity.ensures.items most_none
