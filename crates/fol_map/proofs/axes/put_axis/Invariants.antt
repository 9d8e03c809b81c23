use Rattle.std.proofs.Common.{◌≡◌, ◌+◌, ◌*◌, ◌≤◌, ◌++◌, length, string_bytes}
use Rattle.fol_map.specs.Legends.{axis_marks}
use Rattle.fol_map.proofs.axes.put_axis.Given as goal

abbrev pub invariant-loop-rest : goal.invariant-loop-rest
invariant-loop-rest l = record { same : string_bytes l.out ++ axis_marks l.axis l.at l.across l.rest ≡ string_bytes l.initial.out ++ axis_marks l.axis l.start l.across l.places; small : l.at + 2048 * length l.rest ≤ l.start + 2048 * length l.places }

abbrev pub decreases-loop-rest : goal.decreases-loop-rest
decreases-loop-rest l = length l.rest
