use Rattle.std.proofs.Common.{arith}
use Rattle.fol_split.proofs.Adding.{marked_none}
use Rattle.fol_split.proofs.runs.Runs.new.Goals as goal

pub invariant_of-result : goal.invariant_of-result
invariant_of-result c = (
  marked_none _ _ _ c.in_ok-with_capacity.ensures.items c.in_ok-with_capacity-2.ensures.items c.in_ok-with_capacity-3.ensures.items,
  record {
    runs = omega (arith, c.in_ok-with_capacity.ensures.exact);
    left = omega (arith, c.in_ok-with_capacity-2.ensures.exact);
    class = omega (arith, c.in_ok-with_capacity-3.ensures.exact);
  },
)
