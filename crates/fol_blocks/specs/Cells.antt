-- Blocks by chunk.
use Rattle.std.specs.Prelude.{◌≡◌, ℤ, Bool, not, ◌&&◌, List, [], Option, Some, None, count_by}
use Rattle.std.specs.List.{IsDistinct, flat_map}
use Rattle.std.specs.List.Sorted.{IsStrictlySortedBy}
use Rattle.std.specs.Map.{keys_of, lookup}
use Rattle.std.specs.Ordering.{int_eq}
use Rattle.fol_model.specs.declared.openings.BlockAt.{BlockAt}
use Rattle.fol_model.specs.declared.places.BlockPos.{BlockPos}
use Rattle.fol_model.specs.declared.places.ChunkPos.{ChunkPos}
use Rattle.fol_model.specs.Geometry.{chunk_of, same_chunk}
use Rattle.fol_blocks.specs.Order.{by_place}

-- the keys are those of one chunk
abbrev pub same_key : ℤ × ℤ → ℤ × ℤ → Bool
same_key a b = int_eq a.0 b.0 && int_eq a.1 b.1

-- the chunk of a key
abbrev pub chunk_at : ℤ × ℤ → ChunkPos
chunk_at key = record { x = key.0; z = key.1 }

-- the key of the chunk in which a block lies
abbrev pub key_at : BlockPos → ℤ × ℤ
key_at b = ((chunk_of b).x, (chunk_of b).z)

-- the block lies in the chunk of this key
abbrev pub lies_at : ℤ × ℤ → BlockAt → Bool
lies_at key x = same_chunk (chunk_of x.at) (chunk_at key)

abbrev pub is_astray : ℤ × ℤ → BlockAt → Bool
is_astray key x = not (lies_at key x)

-- the list of a chunk, where it has one
abbrev pub cell_at : List ((ℤ × ℤ) × List BlockAt) → ℤ × ℤ → Option (List BlockAt)
cell_at entries key = lookup (same_key key) entries

abbrev pub items_of : Option (List BlockAt) → List BlockAt
items_of None = []
items_of (Some cell) = cell

-- the blocks of a chunk
abbrev pub blocks_at : List ((ℤ × ℤ) × List BlockAt) → ℤ × ℤ → List BlockAt
blocks_at entries key = items_of (cell_at entries key)

-- the blocks of all chunks
abbrev pub blocks_in : List ((ℤ × ℤ) × List BlockAt) → List BlockAt
blocks_in entries = flat_map (λ e. e.1) entries

-- the blocks of one chunk, in order of place
pub record IsCell (key : ℤ × ℤ) (xs : List BlockAt) : Type 0 where
  pub order : IsStrictlySortedBy by_place xs
  pub chunk : count_by (is_astray key) xs ≡ 0

-- a chunk has one list at most, of its blocks
pub record AreCells (entries : List ((ℤ × ℤ) × List BlockAt)) : Type 0 where
  pub keys : IsDistinct same_key (keys_of entries)
  pub cells : (key : ℤ × ℤ) (cell : List BlockAt) → cell_at entries key ≡ Some cell → IsCell key cell
