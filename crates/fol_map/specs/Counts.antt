-- Counts of chunks in a map.
use Rattle.std.specs.Prelude.{ℕ, ◌<◌}
use Rattle.std.specs.Option.{IfSome, unwrap_or}
use Rattle.std.specs.Ordering.{int_cmp, on, then_cmp}
use Rattle.std.specs.BTreeMap.{BTreeMap, get}
use Rattle.std.specs.declared.cmp.Ordering.{Ordering}
use Rattle.fol_model.specs.declared.places.ChunkPos.{ChunkPos}

-- the order of keys: by z, and then by x
abbrev pub by_place : ChunkPos → ChunkPos → Ordering
by_place = then_cmp (on (λ c. c.z) int_cmp) (on (λ c. c.x) int_cmp)

-- the count of a chunk, and 0 where the map has none
abbrev pub count_in : BTreeMap ChunkPos ℕ → ChunkPos → ℕ
count_in m c = unwrap_or (get by_place m c) 0

-- each count in the map is above 0
abbrev pub AreCounted : BTreeMap ChunkPos ℕ → Type 0
AreCounted m = (c : ChunkPos) → IfSome (get by_place m c) (λ n. 0 < n)
