use Rattle.std.proofs.Common.{◌≡◌, ◌+◌, ◌*◌, ◌≤◌, ◌++◌, length, string_bytes}
use Rattle.fol_map.specs.Legends.{region_lines}
use Rattle.fol_map.proofs.legends.put_region_lines.Given as goal

abbrev pub invariant-loop-rest : goal.invariant-loop-rest
invariant-loop-rest l = record { same : string_bytes l.out ++ region_lines l.at l.rest ≡ string_bytes l.initial.out ++ region_lines l.y l.regions; small : l.at + 224 * length l.rest ≤ l.y + 224 * length l.regions }

abbrev pub decreases-loop-rest : goal.decreases-loop-rest
decreases-loop-rest l = length l.rest
