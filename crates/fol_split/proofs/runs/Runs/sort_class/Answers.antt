use Rattle.std.proofs.Common.{arith}
use Rattle.fol_split.proofs.Taking.{marked_sorted, sorts_class}
use Rattle.fol_split.proofs.runs.Runs.sort_class.Goals as goal

pub invariant_of-self : goal.invariant_of-self
invariant_of-self c = (
  marked_sorted _ _ c.self.invariant.0 c.sort_unstable.ensures.permutation,
  record {
    runs = c.self.invariant.1.runs;
    left = c.self.invariant.1.left;
    class = omega (arith, c.sort_unstable.ensures.capacity, c.self.invariant.1.class);
  },
)

pub returns : goal.returns
returns c = rw (← c.self.view_is) (sorts_class _ _ c.self.invariant.0 c.sort_unstable.ensures.permutation c.sort_unstable.ensures.sorted)
