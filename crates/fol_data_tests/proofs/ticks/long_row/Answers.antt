use Rattle.std.specs.List.Sorted.{IsStrictlySortedBy}
use Rattle.fol_data_tests.proofs.ticks.long_row.Goals as goal

pub loop-x-init : goal.loop-x-init
unfolding IsStrictlySortedBy
loop-x-init c = rw c.new-row.ensures tt
