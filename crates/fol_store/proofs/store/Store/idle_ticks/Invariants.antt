use Rattle.std.proofs.Common.{◌≤◌}
use Rattle.fol_store.proofs.store.Store.idle_ticks.Given as goal

abbrev pub invariant-loop-ticks : goal.invariant-loop-ticks
invariant-loop-ticks l = l.ticks ≤ l.most

abbrev pub decreases-loop-ticks : goal.decreases-loop-ticks
decreases-loop-ticks l = l.ticks
