-- Which columns and rows of sections are drawn, and how far apart.
use Rattle.std.specs.Prelude.{◌≡◌, ℕ, ◌+◌, ℤ, ◌-ℤ◌, unsigned_abs, nat_le, nat_lt, int_le, if◌then◌else◌, List, [], ◌∷◌, ◌++◌, map, flat_map}
use Rattle.std.specs.List.{list_any}
use Rattle.std.specs.List.Sorted.{IsStrictlySortedBy}
use Rattle.std.specs.Ordering.{int_cmp, int_eq}
use Rattle.fol_model.specs.declared.places.ChunkPos.{ChunkPos}
use Rattle.fol_model.specs.declared.places.SectionPos.{SectionPos}
use Rattle.fol_model.specs.declared.grids.Grid.{Grid}
use Rattle.fol_model.specs.declared.entities.Place.{Place}
use Rattle.fol_model.specs.declared.entities.Place.TheVariants.{At, Transit}
use Rattle.fol_model.specs.declared.closings.OwnerRow.{OwnerRow}
use Rattle.fol_model.specs.declared.closings.EntityRow.{EntityRow}
use Rattle.fol_model.specs.declared.closings.Closing.{Closing}
use Rattle.fol_model.specs.Geometry.{chunk_of, same_chunk, section_of}
use Rattle.fol_model.specs.Universe.{chunk_cmp}
use Rattle.fol_map.specs.Holds.{holds}
use Rattle.fol_map.specs.declared.layouts.Layout.{Layout}

-- ---- what is drawn

-- the section in which something stands
abbrev pub place_sections : Grid → Place → List SectionPos
place_sections grid (At b) = section_of grid (chunk_of b) ∷ []
place_sections grid (Transit number) = []

-- the sections with an owner, and those of these chunks and of the entities that stand at a block
abbrev pub drawn : Grid → List OwnerRow → List ChunkPos → List EntityRow → List SectionPos
drawn grid owners chunks entities = map (λ r. r.at) owners ++ map (section_of grid) chunks ++ flat_map (λ r. place_sections grid r.place) entities

-- the list has each of these numbers once, from the least on
pub record IsAxis (used xs : List ℤ) : Type 0 where
  pub order : IsStrictlySortedBy int_cmp xs
  pub same : (x : ℤ) → list_any (int_eq x) xs ≡ list_any (int_eq x) used

-- the list has each chunk that these hold, by z, and then by x
pub record AreHeld (count : ChunkPos → ℕ) (chunks : List ChunkPos) : Type 0 where
  pub order : IsStrictlySortedBy chunk_cmp chunks
  pub same : (c : ChunkPos) → list_any (same_chunk c) chunks ≡ nat_lt 0 (count c)

-- the layout of a closing: all loaded chunks, and the columns and the rows of all sections in which something stands
pub record IsLayout (c : Closing) (l : Layout) : Type 0 where
  pub grid : l.grid ≡ c.opening.grid
  pub chunks : AreHeld (holds c.history c.tasks) l.chunks
  pub columns : IsAxis (map (λ s. s.x) (drawn l.grid c.owners l.chunks c.entities)) l.columns
  pub rows : IsAxis (map (λ s. s.z) (drawn l.grid c.owners l.chunks c.entities)) l.rows

-- ---- how far apart

-- two neighbours are drawn as far apart as they are, up to four sections; farther ones are drawn two sections apart
abbrev pub step : ℤ → ℤ → ℕ
step a b = if nat_le (unsigned_abs (a -ℤ b)) 4 then unsigned_abs (a -ℤ b) else 2

-- how many sections from the first of these columns a column is drawn: the steps up to it
abbrev pub cell : List ℤ → ℤ → ℕ
cell [] x = 0
cell (a ∷ []) x = 0
cell (a ∷ b ∷ more) x = if int_le x a then 0 else step a b + cell (b ∷ more) x

-- how many sections wide these columns are drawn
abbrev pub width : List ℤ → ℕ
width [] = 0
width (a ∷ []) = 1
width (a ∷ b ∷ more) = step a b + width (b ∷ more)
