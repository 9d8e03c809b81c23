use Rattle.std.specs.List.Sorted.{IsStrictlySortedBy}
use Rattle.fol_chunks.specs.Order.{chunk_cmp}
use Rattle.fol_data_tests.proofs.ticks.long_row.Given as goal

abbrev pub invariant-loop-x : goal.invariant-loop-x
invariant-loop-x l = IsStrictlySortedBy chunk_cmp l.row
