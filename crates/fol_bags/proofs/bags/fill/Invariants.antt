use Rattle.std.proofs.Common.{◌-◌, ◌≤◌, vec_len}
use Rattle.fol_bags.proofs.bags.fill.Given as goal

abbrev pub decreases-loop-alloc : goal.decreases-loop-alloc
decreases-loop-alloc l = l.n - vec_len l.pool

abbrev pub invariant-loop-alloc : goal.invariant-loop-alloc
invariant-loop-alloc l = vec_len l.fn.pool ≤ vec_len l.pool
