-- Places in rows.
use Rattle.std.specs.Prelude.{ℕ, ℤ, List, map, flat_map}
use Rattle.fol_model.specs.declared.places.ChunkPos.{ChunkPos}
use Rattle.fol_model.specs.declared.places.SectionPos.{SectionPos}
use Rattle.fol_model.specs.Universe.{from}

abbrev pub chunk_at : ℤ → ℤ → ChunkPos
chunk_at x z = record { x = x; z = z }

abbrev pub section_at : ℤ → ℤ → SectionPos
section_at x z = record { x = x; z = z }

-- n places in a row, from x on
unfoldable pub row_of : {X : Type 0} → (ℤ → ℤ → X) → ℤ → ℤ → ℕ → List X
row_of at x z n = map (λ a. at a z) (from x n)

-- n places in each of some rows, from x and z on
unfoldable pub rows_of : {X : Type 0} → (ℤ → ℤ → X) → ℤ → ℤ → ℕ → ℕ → List X
rows_of at x z rows n = flat_map (λ b. map (λ a. at a b) (from x n)) (from z rows)
