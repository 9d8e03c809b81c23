use Rattle.std.proofs.Common.{◌≡◌, ◌≤◌, ◌++◌, drop}
use Rattle.std.specs.Vec.{vec_capacity}
use Rattle.fol_split.specs.Runs.{sections_at}
use Rattle.fol_split.proofs.runs.Runs.append_each.Given as goal

abbrev pub invariant-loop-k : goal.invariant-loop-k
invariant-loop-k l = record {
  found : l.found.items ++ sections_at l.self.runs (drop l.k-index l.k-items) ≡ l.fn.found.items ++ sections_at l.self.runs l.self.class;
  room : vec_capacity l.fn.found ≤ vec_capacity l.found;
}
