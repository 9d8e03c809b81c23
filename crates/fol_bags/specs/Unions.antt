-- The chunks of two lists together.
use Rattle.std.specs.Prelude.{◌≡◌, ◌||◌, true, List}
use Rattle.std.specs.List.Sorted.{IsStrictlySortedBy}
use Rattle.fol_model.specs.declared.places.ChunkPos.{ChunkPos}
use Rattle.fol_chunks.specs.Contents.{is_recorded}
use Rattle.fol_chunks.specs.Order.{chunk_cmp}

-- the chunks of two lists, in their order
pub record IsUnion (xs ys zs : List ChunkPos) : Type 0 where
  pub order : IsStrictlySortedBy chunk_cmp zs
  pub has : (q : ChunkPos) → is_recorded zs q ≡ (is_recorded xs q || is_recorded ys q)

-- the chunks of the first list, and perhaps some of the second, in their order
pub record IsPartOfUnion (xs ys zs : List ChunkPos) : Type 0 where
  pub order : IsStrictlySortedBy chunk_cmp zs
  pub kept : (q : ChunkPos) → is_recorded xs q ≡ true → is_recorded zs q ≡ true
  pub no_other : (q : ChunkPos) → is_recorded zs q ≡ true → (is_recorded xs q || is_recorded ys q) ≡ true
