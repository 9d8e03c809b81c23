use Rattle.std.proofs.Common.{◌≡◌, ◌+◌, ◌*◌, ◌≤◌, length}
use Rattle.fol_map.specs.Layouts.{cell}
use Rattle.fol_map.proofs.layouts.cell.Given as goal

abbrev pub invariant-loop-rest : goal.invariant-loop-rest
invariant-loop-rest l = record { same : cell l.places l.place ≡ l.cell + cell l.rest l.place; small : l.cell + 4 * length l.rest ≤ 4 * length l.places }

abbrev pub decreases-loop-rest : goal.decreases-loop-rest
decreases-loop-rest l = length l.rest
