-- Chunks in whose spots something may lie.
use Rattle.std.specs.Prelude.{ℕ, ◌≡◌, true, List, Some}
use Rattle.fol_model.specs.declared.places.ChunkPos.{ChunkPos}
use Rattle.fol_chunks.specs.Contents.{is_recorded}
use Rattle.fol_store.specs.Stock.{Stock, place}

-- those of the chunks that have a spot are noted
abbrev pub AreNoted : Stock → List ChunkPos → List ChunkPos → Type 0
AreNoted s chunks noted = (c : ChunkPos) (i : ℕ) → is_recorded chunks c ≡ true → (place s c).spot ≡ Some i → is_recorded noted c ≡ true
