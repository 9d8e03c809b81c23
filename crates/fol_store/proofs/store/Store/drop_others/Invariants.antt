use Rattle.std.proofs.Common.{◌≡◌, ℕ, ◌<◌, ◌⊎◌, get_or, true, Some}
use Rattle.fol_model.specs.declared.places.ChunkPos.{ChunkPos}
use Rattle.fol_chunks.specs.Contents.{is_recorded}
use Rattle.fol_store.specs.Stock.{bag_of, place}
use Rattle.fol_store.specs.Steps.{SameMeaning}
use Rattle.fol_store.proofs.store.Store.drop_others.Given as goal

abbrev pub invariant-loop-k : goal.invariant-loop-k
invariant-loop-k l = record {
  same : SameMeaning l.fn.self l.self;
  bags : bag_of l.self ≡ bag_of l.fn.self;
  arrivals : l.self.arrivals ≡ l.fn.self.arrivals;
  gone : (j : ℕ) (d : ChunkPos) → j < l.k → (is_recorded l.chunks (get_or (bag_of l.fn.self l.id).chunks j d) ≡ true) ⊎ ((place l.self (get_or (bag_of l.fn.self l.id).chunks j d)).bag ≡ Some l.id → ⊥);
}
