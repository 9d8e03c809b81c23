use Rattle.std.proofs.Common.{ap, sym, ◌∙◌, arith}
use Rattle.fol_split.specs.Runs.{all_of}
use Rattle.fol_split.proofs.Pools.{pool_none}
use Rattle.fol_split.proofs.pool.Pool.new.Goals as goal

pub invariant_of-result : goal.invariant_of-result
invariant_of-result c = (
  pool_none _ _ (ap (λ m. m.runs) c.in_ok-new.ensures) c.in_ok-with_capacity-2.ensures.items,
  record {
    order = omega (arith, c.in_ok-with_capacity.ensures.exact);
    found = omega (arith, c.in_ok-with_capacity-2.ensures.exact);
  },
  ap (λ m. all_of m.runs) c.in_ok-new.ensures ∙ sym c.in_ok-with_capacity.ensures.items,
)
