-- All sections and chunks within the limits, in order of (z, x), all blocks in order of (x, y, z), and the numbers below a number.
-- What is counted or listed is counted or listed over these. Nobody computes them: they say which rows there are, and in which order.
use Rattle.std.specs.Prelude.{ℕ, zero, suc, ℤ, pos, ◌+ℤ◌, ◌+◌, Bool, List, [], ◌∷◌, ◌++◌, map, flat_map, count_by, neg_ℤ}
use Rattle.std.specs.List.{list_any}
use Rattle.std.specs.Ordering.{int_cmp, ordering_then, on, then_cmp}
use Rattle.std.specs.declared.cmp.Ordering.{Ordering}
use Rattle.fol_model.specs.declared.places.ChunkPos.{ChunkPos}
use Rattle.fol_model.specs.declared.places.SectionPos.{SectionPos}
use Rattle.fol_model.specs.declared.places.BlockPos.{BlockPos}

-- n numbers, from z on
unfoldable pub from : ℤ → ℕ → List ℤ
from z zero = []
from z (suc n) = z ∷ from (z +ℤ pos 1) n

-- the numbers from -limit to limit
unfoldable pub coordinates : ℕ → List ℤ
coordinates limit = from (neg_ℤ (pos limit)) (limit + limit + 1)

unfoldable pub all_sections : List SectionPos
all_sections = flat_map (λ z. map (λ x. record { x = x; z = z }) (coordinates 1000008)) (coordinates 1000008)

unfoldable pub all_chunks : List ChunkPos
all_chunks = flat_map (λ z. map (λ x. record { x = x; z = z }) (coordinates 1000000)) (coordinates 1000000)

abbrev pub some_section : (SectionPos → Bool) → Bool
some_section p = list_any p all_sections

abbrev pub count_sections : (SectionPos → Bool) → ℕ
count_sections p = count_by p all_sections

abbrev pub some_chunk : (ChunkPos → Bool) → Bool
some_chunk p = list_any p all_chunks

-- the order by z, and then by x
unfoldable pub section_cmp : SectionPos → SectionPos → Ordering
section_cmp a b = ordering_then (int_cmp a.z b.z) (int_cmp a.x b.x)

-- the order by z, and then by x
unfoldable pub chunk_cmp : ChunkPos → ChunkPos → Ordering
chunk_cmp = then_cmp (on (λ c. c.z) int_cmp) (on (λ c. c.x) int_cmp)

-- the sections at most r away, in order
unfoldable pub square : SectionPos → ℕ → List SectionPos
square n r = flat_map (λ z. map (λ x. record { x = x; z = z }) (from (n.x +ℤ neg_ℤ (pos r)) (r + r + 1))) (from (n.z +ℤ neg_ℤ (pos r)) (r + r + 1))

-- all blocks within the limits
unfoldable pub all_blocks : List BlockPos
all_blocks = flat_map (λ x. flat_map (λ y. map (λ z. record { x = x; y = y; z = z }) (from (neg_ℤ (pos 16000000)) 32000016)) (from (pos 0) 256)) (from (neg_ℤ (pos 16000000)) 32000016)

-- the order by x, then by y, then by z
unfoldable pub block_cmp : BlockPos → BlockPos → Ordering
block_cmp = then_cmp (on (λ b. b.x) int_cmp) (then_cmp (on (λ b. b.y) int_cmp) (on (λ b. b.z) int_cmp))

-- the numbers below n, in order
unfoldable pub numbers_below : ℕ → List ℕ
numbers_below zero = []
numbers_below (suc n) = numbers_below n ++ n ∷ []
