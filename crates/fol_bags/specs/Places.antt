-- Where the things of a chunk may lie.
use Rattle.std.specs.Prelude.{ℕ, ℤ, Bool, false, ◌&&◌, nat_eq, if◌then◌else◌, List, map, Option, Some, None}
use Rattle.std.specs.Map.{lookup}
use Rattle.std.specs.Option.{option_map, unwrap_or}
use Rattle.std.specs.Ordering.{int_eq}
use Rattle.fol_model.specs.declared.places.ChunkPos.{ChunkPos}
use Rattle.fol_chunks.specs.Contents.{is_recorded}
use Rattle.fol_bags.specs.declared.places.Place.{Place}
use Rattle.fol_bags.specs.Labels.{swapped}

-- what contracts see of the places
pub record PlaceRows : Type 0 where
  pub rows : List ((ℤ × ℤ) × Place)

abbrev pub nowhere : Place
nowhere = record { spot = None; bag = None }

-- the place of a chunk, if it has one
unfoldable pub known_place : List ((ℤ × ℤ) × Place) → ℤ → ℤ → Option Place
known_place rows x z = lookup (λ key. int_eq x key.0 && int_eq z key.1) rows

-- the place of a chunk
unfoldable pub place_at : PlaceRows → ChunkPos → Place
place_at p c = unwrap_or (known_place p.rows c.x c.z) nowhere

-- the number is this one
abbrev pub is_number : ℕ → Option ℕ → Bool
is_number n None = false
is_number n (Some m) = nat_eq n m

-- the things of the chunk may lie in that bag
abbrev pub is_bag : ℕ → Place → Bool
is_bag id p = is_number id p.bag

-- the place after its things went from one bag to another
abbrev pub rebagged : ℕ → ℕ → Place → Place
rebagged «from» to p = if is_bag «from» p then record p { bag = Some to } else p

-- the place of a chunk after what lies on the chunks went from one bag to another
abbrev pub rehomed : List ChunkPos → ℕ → ℕ → ChunkPos → Place → Place
rehomed chunks «from» to c p = if (is_recorded chunks c && is_bag «from» p) then record p { bag = Some to } else p

-- the place with another number for its bag
abbrev pub renumbered : (ℕ → ℕ) → Place → Place
renumbered f p = record p { bag = option_map f p.bag }

-- the place after two bags were exchanged
abbrev pub exchanged : ℕ → ℕ → Place → Place
exchanged a b p = renumbered (swapped a b) p

-- the rows with another number for each bag, where they have one
abbrev pub renumbered_rows : (ℕ → ℕ) → List ((ℤ × ℤ) × Place) → List ((ℤ × ℤ) × Place)
renumbered_rows owner rows = map (λ row. (row.0, renumbered owner row.1)) rows
