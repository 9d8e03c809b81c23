use Rattle.std.proofs.Common.{◌≡◌, ◌+◌, ◌≤◌, ◌^◌, take}
use Rattle.fol_model.specs.declared.places.ChunkPos.{ChunkPos}
use Rattle.fol_map.specs.Counts.{AreCounted, count_in}
use Rattle.fol_map.specs.Holds.{holds}
use Rattle.fol_map.proofs.holds.count_holds.Given as goal

abbrev pub invariant-loop-row : goal.invariant-loop-row
invariant-loop-row l = record { counted : AreCounted l.counts; same : (c : ChunkPos) → count_in l.counts c ≡ holds l.history (take l.row-index l.tasks) c; small : (c : ChunkPos) → count_in l.counts c ≤ 2 ^ 64 + l.row-index }
