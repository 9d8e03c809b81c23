-- The chunks of a list to which chunks come, and which they leave.
use Rattle.std.specs.Prelude.{ℕ, ◌+◌, ◌<◌, ◌≤◌, ◌||◌, ◌&&◌, not, Bool, if◌then◌else◌, List, [], ◌∷◌, ◌++◌, length, filter}
use Rattle.std.specs.List.Sorted.{IsStrictlySortedBy}
use Rattle.std.specs.Ordering.{is_lt}
use Rattle.fol_model.specs.declared.places.ChunkPos.{ChunkPos}
use Rattle.fol_keyed.specs.Members.{is_listed}
use Rattle.fol_keyed.specs.Order.{chunk_cmp}

-- the chunk alone, unless the list has it
abbrev pub unless_there : List ChunkPos → ChunkPos → List ChunkPos
unless_there xs c = if is_listed xs c then [] else c ∷ []

-- a list after some changes, which rise: a chunk that it has leaves it, and any other comes to it
unfoldable pub changed : List ChunkPos → List ChunkPos → List ChunkPos
changed xs [] = xs
changed xs (c ∷ cs) = (filter (λ q. is_lt (chunk_cmp q c)) xs ++ unless_there xs c) ++ changed (filter (λ q. is_lt (chunk_cmp c q)) xs) cs

-- the chunk is in the list after the changes, where these rise
abbrev pub is_pending : List ChunkPos → List ChunkPos → ChunkPos → Bool
is_pending list changes q = (is_listed list q && not (is_listed changes q)) || (not (is_listed list q) && is_listed changes q)

-- the changes of a list rise, and where there are some, the list does too, and there is so much room for it after them
pub record IsPending (list changes : List ChunkPos) (room : ℕ) : Type 0 where
  pub changes_rise : IsStrictlySortedBy chunk_cmp changes
  pub list_rises : 0 < length changes → IsStrictlySortedBy chunk_cmp list
  pub enough : 0 < length changes → length list + length changes ≤ room
