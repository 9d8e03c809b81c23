use Rattle.std.proofs.Common.{refl, arith}
use Rattle.std.specs.List.Sorted.{IsStrictlySortedBy}
use Rattle.fol_blocks.proofs.CellSums.{no_cells}
use Rattle.fol_blocks.proofs.blocks.Blocks.new.Goals as goal

pub returns-clause-kept : goal.returns-clause-kept
unfolding IsStrictlySortedBy
returns-clause-kept c = record {
  laid = record {
    cells = rw c.new.ensures.empty no_cells;
    fresh_order = rw c.new-2.ensures.items tt;
    once = λ at. rw (c.new.ensures.empty, c.new-2.ensures.items) (omega arith);
    full = rw (c.new.ensures.empty, c.new-2.ensures.items) refl;
  };
  len = rw (c.new.ensures.empty, c.new-2.ensures.items) refl;
  few = omega arith;
}
