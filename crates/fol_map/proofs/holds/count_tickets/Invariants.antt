use Rattle.std.proofs.Common.{◌≡◌, ◌≤◌, take}
use Rattle.fol_model.specs.declared.places.ChunkPos.{ChunkPos}
use Rattle.fol_map.specs.Counts.{AreCounted, count_in}
use Rattle.fol_map.specs.Holds.{tickets}
use Rattle.fol_map.proofs.holds.count_tickets.Given as goal

abbrev pub invariant-loop-entry : goal.invariant-loop-entry
invariant-loop-entry l = record { counted : AreCounted l.counts; same : (c : ChunkPos) → count_in l.counts c ≡ tickets (take l.entry-index l.history) c; small : (c : ChunkPos) → count_in l.counts c ≤ l.entry-index }
