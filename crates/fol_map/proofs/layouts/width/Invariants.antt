use Rattle.std.proofs.Common.{◌≡◌, ◌+◌, ◌*◌, ◌≤◌, length}
use Rattle.fol_map.specs.Layouts.{width}
use Rattle.fol_map.proofs.layouts.width.Given as goal

abbrev pub invariant-loop-rest : goal.invariant-loop-rest
invariant-loop-rest l = record { same : width l.places ≡ l.width + width l.rest; small : l.width + 4 * length l.rest ≤ 4 * length l.places }

abbrev pub decreases-loop-rest : goal.decreases-loop-rest
decreases-loop-rest l = length l.rest
