use Rattle.std.proofs.Common.{◌≡◌, ◌≤◌, length}
use Rattle.std.specs.Vec.{vec_capacity}
use Rattle.fol_split.specs.Spans.{IsSplit}
use Rattle.fol_split.proofs.splitter.split.Given as goal

abbrev pub invariant-loop-k : goal.invariant-loop-k
invariant-loop-k l = record {
  split : IsSplit l.pool l.spans.items l.merge l.k;
  runs : l.pool.runs ≡ l.initial.pool.runs;
  few : length l.spans.items ≤ 16384;
  room : 16384 ≤ vec_capacity l.spans;
}
