-- What a gathering changes in the bags.
use Rattle.std.specs.Prelude.{ℕ, ◌≡◌, ◌≢◌, true, false, List}
use Rattle.fol_model.specs.declared.places.ChunkPos.{ChunkPos}
use Rattle.fol_chunks.specs.Contents.{is_recorded}
use Rattle.fol_store.specs.Bag.{Bag}

-- none of the chunks is one of the bag
abbrev pub IsClear : List ChunkPos → Bag → Type 0
IsClear chunks b = (c : ChunkPos) → is_recorded chunks c ≡ true → is_recorded b.chunks c ≡ false

-- no bag that was taken out has one of the chunks
abbrev pub AreFree : (ℕ → Bag) → List ChunkPos → Type 0
AreFree bags chunks = (u : ℕ) → (bags u).taken ≡ true → IsClear chunks (bags u)

-- another bag stays, but that it is listed no more where it had one of the chunks
pub record Spared (chunks : List ChunkPos) (old new : Bag) : Type 0 where
  pub same : new ≡ record old { listed = new.listed }
  pub kept : old.listed ≡ true → IsClear chunks old → new.listed ≡ true
  pub lost : new.listed ≡ true → old.listed ≡ true

abbrev pub OthersSpared : ℕ → List ChunkPos → (ℕ → Bag) → (ℕ → Bag) → Type 0
OthersSpared id chunks old new = (u : ℕ) → u ≢ id → Spared chunks (old u) (new u)

-- the bag stays, but that it is listed no more or has other chunks
pub record Touched (old new : Bag) : Type 0 where
  pub same : new ≡ record old { listed = new.listed; chunks = new.chunks }
  pub listed : new.listed ≡ true → new ≡ old
