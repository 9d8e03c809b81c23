use Rattle.std.proofs.Common.{◌≤◌}
use Rattle.fol_bench.proofs.view.look_in_mutex.Given as goal

abbrev pub invariant-loop-look : goal.invariant-loop-look
invariant-loop-look g l = l.owned ≤ l.look
