-- How many entities stand in each chunk.
use Rattle.std.specs.Prelude.{◌≡◌, ℕ, ℤ, Bool, List, count_by, sum_by}
use Rattle.std.specs.List.Sorted.{IsStrictlySortedBy}
use Rattle.std.specs.Map.{lookup}
use Rattle.std.specs.Option.{unwrap_or}
use Rattle.fol_model.specs.declared.entities.Entity.{Entity}
use Rattle.fol_model.specs.declared.places.ChunkPos.{ChunkPos}
use Rattle.fol_model.specs.Geometry.{chunk_of, same_chunk}
use Rattle.fol_keyed.specs.Members.{is_listed}
use Rattle.fol_blocks.specs.Cells.{chunk_at, same_key}
use Rattle.fol_chunks.specs.Rows.{by_id}

-- the entity stands in the chunk of this key
abbrev pub stands_in : ℤ × ℤ → Entity → Bool
stands_in key e = same_chunk (chunk_of e.at) (chunk_at key)

-- the number that is kept for a chunk, and 0 where none is
abbrev pub number_of : List ((ℤ × ℤ) × ℕ) → ℤ × ℤ → ℕ
number_of entries key = unwrap_or (lookup (same_key key) entries) 0

-- the numbers of these chunks together
abbrev pub total_of : List ((ℤ × ℤ) × ℕ) → List ChunkPos → ℕ
total_of entries chunks = sum_by (λ c. number_of entries (c.x, c.z)) chunks

-- the key is that of one of these chunks
abbrev pub is_key_of : List ChunkPos → ℤ × ℤ → Bool
is_key_of chunks key = is_listed chunks (chunk_at key)

-- entities in order of id, and the number of those in each chunk
pub record AreCounted (es : List Entity) (entries : List ((ℤ × ℤ) × ℕ)) : Type 0 where
  pub order : IsStrictlySortedBy by_id es
  pub numbers : (key : ℤ × ℤ) → number_of entries key ≡ count_by (stands_in key) es
