-- The chunks of a rectangle, row by row.
use Rattle.std.specs.Prelude.{◌≡◌, ℤ, pos, ◌+ℤ◌, ◌<ℤ◌, int_le, Bool, ◌&&◌, ◌⊎◌}
use Rattle.fol_model.specs.declared.places.ChunkPos.{ChunkPos}

-- the chunk lies between the two corners
abbrev pub is_between : ChunkPos → ChunkPos → ChunkPos → Bool
is_between first last c = (int_le first.x c.x && int_le c.x last.x) && (int_le first.z c.z && int_le c.z last.z)

-- the second is the next chunk of the row that ends at `east`, or the first of the next row, which begins at `west`
abbrev pub Follows : ℤ → ℤ → ChunkPos → ChunkPos → Type 0
Follows west east p q = ((p.x <ℤ east) × (q.x ≡ p.x +ℤ pos 1) × (q.z ≡ p.z)) ⊎ ((p.x ≡ east) × (q.x ≡ west) × (q.z ≡ p.z +ℤ pos 1))
