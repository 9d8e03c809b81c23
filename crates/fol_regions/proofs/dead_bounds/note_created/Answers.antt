use Rattle.std.proofs.Common.{arith}
use Rattle.fol_regions.proofs.BoundSteps.{one_created}
use Rattle.fol_regions.proofs.dead_bounds.note_created.Goals as goal

pub loop-id-init : goal.loop-id-init
loop-id-init c = λ r. omega arith

pub loop-id-preserved : goal.loop-id-preserved
loop-id-preserved c = λ r. one_created c.args.ids.now c.loop-id.id-index r _ _ _ c.loop-id-test.true (c.loop-id.invariant r) (omega arith) (c.set.ensures r)
