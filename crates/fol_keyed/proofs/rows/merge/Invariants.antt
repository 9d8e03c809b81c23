use Rattle.std.proofs.Common.{◌+◌, ◌≤◌, take, length}
use Rattle.fol_keyed.proofs.Merged.{IsMerging}
use Rattle.fol_keyed.proofs.rows.merge.Given as goal

abbrev pub invariant-loop-j : goal.invariant-loop-j
invariant-loop-j g l = record {
  merging : IsMerging g.T.Row.order g.met.T.Row.total (take l.kept l.fn.rows) l.others l.rows l.i l.j;
  first_bound : l.i ≤ l.kept;
  second_bound : l.j ≤ length l.others;
}

abbrev pub decreases-loop-j : goal.decreases-loop-j
decreases-loop-j g l = l.i + l.j
