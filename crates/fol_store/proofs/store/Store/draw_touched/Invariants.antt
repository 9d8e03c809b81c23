use Rattle.std.proofs.Common.{ℕ, ◌≡◌, ◌<◌, get_or, Some}
use Rattle.fol_model.specs.declared.places.ChunkPos.{ChunkPos}
use Rattle.fol_store.specs.Stock.{place, bag_of}
use Rattle.fol_store.specs.Steps.{Draws, IsGathered}
use Rattle.fol_store.proofs.store.Store.draw_touched.Given as goal

abbrev pub invariant-loop-c : goal.invariant-loop-c
invariant-loop-c l = record {
  draws : Draws l.id (bag_of l.fn.self l.id).chunks l.fn.self l.self;
  places : l.self.places ≡ l.fn.self.places;
  drawn : (k : ℕ) (d : ChunkPos) → k < l.c-index → (place l.fn.self (get_or l.touched k d)).bag ≡ Some l.id → IsGathered l.self l.id (get_or l.touched k d);
}
