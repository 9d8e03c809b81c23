-- Numbers by place.
use Rattle.std.specs.Prelude.{ℕ, ℤ, ◌&&◌, Option, List}
use Rattle.std.specs.Map.{lookup}
use Rattle.std.specs.Option.{unwrap_or}
use Rattle.std.specs.Ordering.{int_eq}
use Rattle.fol_model.specs.declared.places.ChunkPos.{ChunkPos}
unfoldable pub use Rattle.fol_pages.specs.Pages.{is_same}

-- the number at a place, if it has one
unfoldable pub number_at : List ((ℤ × ℤ) × ℕ) → ℤ → ℤ → Option ℕ
number_at entries x z = lookup (λ key. int_eq x key.0 && int_eq z key.1) entries

-- the number at a chunk, or 0
unfoldable pub count_at : List ((ℤ × ℤ) × ℕ) → ChunkPos → ℕ
count_at entries c = unwrap_or (number_at entries c.x c.z) 0
