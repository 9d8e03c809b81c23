use Rattle.std.proofs.Common.{arith}
use Rattle.fol_model.specs.GridNumbers.{IsGrid}
use Rattle.fol_sections.proofs.Tables.{kept_none, table_none}
use Rattle.fol_sections.proofs.sections.Sections.new.Goals as goal

pub invariant_of-result : goal.invariant_of-result
invariant_of-result c =
    let numbers : IsGrid c.args.grid = rw c.grid.view_is at c.grid.invariant in (
      kept_none _ _ _ numbers c.new.ensures.empty c.new-2.ensures,
      record {
        holds = omega arith;
        pages = omega arith;
        filled = omega (arith, c.in_ok-with_capacity.ensures.exact);
        died = omega (arith, c.in_ok-with_capacity-2.ensures.exact);
        fits = omega arith;
      },
    )

pub returns-clause-empty : goal.returns-clause-empty
returns-clause-empty c = table_none _ _ _ _ _ _ c.new.ensures.empty c.new-2.ensures c.in_ok-with_capacity.ensures.items c.in_ok-with_capacity-2.ensures.items
