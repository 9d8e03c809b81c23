use Rattle.std.proofs.Common.{◌≡◌}
use Rattle.fol_live.specs.Lives.{live_id}
use Rattle.fol_bench.proofs.view.load.Given as goal

abbrev pub invariant-loop-number : goal.invariant-loop-number
invariant-loop-number g l = l.caller.lock ≡ live_id l.live
