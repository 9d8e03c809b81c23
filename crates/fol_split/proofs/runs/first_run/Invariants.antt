use Rattle.std.proofs.Common.{◌≡◌, ◌∷◌, take}
use Rattle.std.specs.Prelude.{◌<ℤ◌}
use Rattle.fol_split.specs.Runs.{sections_of}
use Rattle.fol_split.proofs.runs.first_run.Given as goal

abbrev pub invariant-loop-s : goal.invariant-loop-s
invariant-loop-s l = record {
  solid : l.run.from <ℤ l.run.to;
  front : sections_of l.run ≡ l.fn.first ∷ take l.s-index l.rest;
}
