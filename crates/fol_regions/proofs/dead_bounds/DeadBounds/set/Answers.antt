use Rattle.std.proofs.Common.{arith}
use Rattle.fol_regions.proofs.BoundSteps.{most_put}
use Rattle.fol_regions.proofs.dead_bounds.DeadBounds.set.Goals as goal

pub returns-then-at-len : goal.returns-then-at-len
returns-then-at-len c = rw (← c.self.view_is) (most_put c.self.inside.known.items c.args.id c.args.most c.place-at.result c.place-at.ensures.at (omega arith))
