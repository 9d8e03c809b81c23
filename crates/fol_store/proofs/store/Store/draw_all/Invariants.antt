use Rattle.std.proofs.Common.{ℕ, ◌<◌, get_or}
use Rattle.fol_model.specs.declared.places.ChunkPos.{ChunkPos}
use Rattle.fol_store.specs.Steps.{Draws, IsGathered}
use Rattle.fol_store.proofs.store.Store.draw_all.Given as goal

abbrev pub invariant-loop-c : goal.invariant-loop-c
invariant-loop-c l = record {
  draws : Draws l.id l.chunks l.fn.self l.self;
  gathered : (k : ℕ) (d : ChunkPos) → k < l.c-index → IsGathered l.self l.id (get_or l.chunks k d);
}
