use Rattle.std.proofs.Common.{◌≤◌}
use Rattle.fol_server.specs.Crew.{IsSameSender}
use Rattle.fol_server.proofs.builder.build.Given as goal

abbrev pub invariant-loop-number : goal.invariant-loop-number
invariant-loop-number g l = IsSameSender l.fn.sender l.sender × (l.sent ≤ l.number)
