use Rattle.std.proofs.Common.{ℕ, ◌<◌, IsNone}
use Rattle.fol_queues.specs.Waiting.{dated}
use Rattle.fol_data_tests.proofs.queues.queue_of.Given as goal

-- no task has a number above i
abbrev pub invariant-loop-i : goal.invariant-loop-i
invariant-loop-i l = (n : ℕ) → l.i < n → IsNone (dated l.queues n)
