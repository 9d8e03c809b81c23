use Rattle.std.proofs.Common.{arith, sym}
use Rattle.fol_regions.proofs.BoundSteps.{most_known, most_past, most_unknown}
use Rattle.fol_regions.proofs.dead_bounds.DeadBounds.most.Goals as goal

pub returns-then-at-len : goal.returns-then-at-len
returns-then-at-len c = rw (← c.self.view_is) (sym (most_past c.self.inside.known.items c.args.id (omega (arith, c.place-at.ensures.at))))

pub returns-then-known-id : goal.returns-then-known-id
returns-then-known-id c = rw (← c.self.view_is) (most_known c.self.inside.known.items c.args.id c.place-at.result c.index-known.result.now c.place-at.ensures.at (omega arith) c.index-known.ensures c.if-known-id.true)

pub returns-else-known-id : goal.returns-else-known-id
returns-else-known-id c = rw (← c.self.view_is) (most_unknown c.self.inside.known.items c.args.id c.place-at.result c.index-known.result.now c.place-at.ensures.at (omega arith) c.index-known.ensures c.if-known-id.false)
