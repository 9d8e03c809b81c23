-- The regions near a section.
use Rattle.std.specs.Prelude.{ℕ, Bool, ◌&&◌, ◌||◌, nat_eq, nat_lt, if◌then◌else◌, List, filter, map, flat_map, pos, ◌+ℤ◌}
use Rattle.std.specs.List.{list_any}
use Rattle.fol_model.specs.declared.places.SectionPos.{SectionPos}
use Rattle.fol_model.specs.Geometry.{is_within}
use Rattle.fol_model.specs.Universe.{from, numbers_below, some_section}
use Rattle.fol_region_tables.specs.Book.{Book, owner_of}
use Rattle.fol_region_tables.specs.Links.{with_id}

-- n sections in a row, that many rows behind the first one
unfoldable pub row_of : SectionPos → ℕ → ℕ → List SectionPos
row_of first row n = map (λ x. record { x = x; z = first.z +ℤ pos row }) (from first.x n)

-- n sections in each of some rows
unfoldable pub rows_of : SectionPos → ℕ → ℕ → List SectionPos
rows_of first rows n = flat_map (λ z. map (λ x. record { x = x; z = z }) (from first.x n)) (from first.z rows)

-- a region has one of the sections
abbrev pub has_one : (SectionPos → ℕ) → List SectionPos → ℕ → Bool
has_one owner sections r = nat_lt 0 r && list_any (λ s. nat_eq (owner s) r) sections

-- the regions of some sections, rising
unfoldable pub regions_of : (SectionPos → ℕ) → ℕ → List SectionPos → List ℕ
regions_of owner next sections = filter (has_one owner sections) (numbers_below next)

-- the region has a section within a radius
abbrev pub is_close : (SectionPos → ℕ) → SectionPos → ℕ → ℕ → Bool
is_close owner home reach r = nat_lt 0 r && some_section (λ s. nat_eq (owner s) r && is_within home reach s)

-- the regions with a section within a radius, rising
abbrev pub near_ids : Book → SectionPos → ℕ → List ℕ
near_ids b home reach = filter (is_close (owner_of b) home reach) (numbers_below b.next)

-- an id more, unless it is 0 or there
abbrev pub noted : ℕ → List ℕ → List ℕ
noted id ids = if (nat_eq id 0 || list_any (nat_eq id) ids) then ids else with_id id ids
