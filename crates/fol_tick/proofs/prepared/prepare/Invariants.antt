use Rattle.std.proofs.Common.{◌≤◌, drop, length}
use Rattle.fol_tick.specs.Prepared.{IsStockOf}
use Rattle.fol_tick.proofs.prepared.prepare.Given as goal

abbrev pub invariant-loop-left : goal.invariant-loop-left
invariant-loop-left l = record {
  within : l.left ≤ length l.tasks;
  stock : IsStockOf (drop l.left l.tasks) l.stock;
}

abbrev pub decreases-loop-left : goal.decreases-loop-left
decreases-loop-left l = l.left
