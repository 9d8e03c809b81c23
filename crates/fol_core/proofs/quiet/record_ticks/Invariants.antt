use Rattle.std.proofs.Common.{◌≡◌, ◌+◌, ◌*◌, ◌++◌, vec_len, vec_capacity}
use Rattle.fol_core.specs.Quiet.{quiet_ticks}
use Rattle.fol_core.proofs.quiet.record_ticks.Given as goal

abbrev pub invariant-loop-i : goal.invariant-loop-i
invariant-loop-i l = record {
  entries : l.history.items ≡ l.fn.history.items ++ quiet_ticks l.worker l.id l.before l.i;
  len : vec_len l.history ≡ vec_len l.fn.history + 2 * l.i;
  capacity : vec_capacity l.history ≡ vec_capacity l.fn.history;
}
