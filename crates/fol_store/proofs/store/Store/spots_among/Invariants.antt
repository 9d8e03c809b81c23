use Rattle.std.proofs.Common.{◌≡◌, ℕ, ◌<◌, get_or, true, Some}
use Rattle.fol_model.specs.declared.places.ChunkPos.{ChunkPos}
use Rattle.fol_chunks.specs.Contents.{is_recorded}
use Rattle.fol_store.specs.Stock.{place}
use Rattle.fol_store.proofs.store.Store.spots_among.Given as goal

abbrev pub invariant-loop-c : goal.invariant-loop-c
invariant-loop-c l = record {
  homes : (k : ℕ) (d : ChunkPos) → k < l.c-index → (place l.self (get_or l.chunks k d)).bag ≡ Some l.id;
  noted : (k : ℕ) (d : ChunkPos) (i : ℕ) → k < l.c-index → (place l.self (get_or l.chunks k d)).spot ≡ Some i → is_recorded l.list.items (get_or l.chunks k d) ≡ true;
}
