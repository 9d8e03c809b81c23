use Rattle.std.proofs.Common.{◌≡◌, ◌+◌, ◌-◌, ◌≤◌}
use Rattle.fol_core.specs.Meaning.{world_of}
use Rattle.fol_core.specs.Quiet.{Passes}
use Rattle.fol_core.proofs.machine.Core.pass.Given as goal

abbrev pub invariant-rounds : goal.invariant-rounds
invariant-rounds l = record {
  few : l.passed ≤ l.most;
  passed : Passes l.fn.self l.self l.worker l.id l.passed;
  counter : (world_of l.self).tick l.id ≡ (world_of l.fn.self).tick l.id + l.passed;
}

abbrev pub decreases-rounds : goal.decreases-rounds
decreases-rounds l = l.most - l.passed
