use Rattle.std.proofs.Common.{arith}
use Rattle.fol_map.proofs.Ordered.{width_short}
use Rattle.fol_map.proofs.layouts.width.Goals as goal

pub returns-clause-value : goal.returns-clause-value
returns-clause-value c = omega (arith, c.loop-rest.invariant.same, width_short c.loop-rest.rest.now c.in_default.len_below)
