-- Rows of owners.
use Rattle.std.specs.Prelude.{ℕ, if◌then◌else◌, List, [], ◌∷◌, Option, Some, None}
use Rattle.std.specs.List.Sorted.{IsStrictlySortedBy}
use Rattle.fol_model.specs.declared.places.SectionPos.{SectionPos}
use Rattle.fol_model.specs.declared.closings.OwnerRow.{OwnerRow}
use Rattle.fol_model.specs.Geometry.{same_section}
use Rattle.fol_model.specs.Universe.{section_cmp}

-- by (z, x), each section once
abbrev pub AreInOrder : List OwnerRow → Type 0
AreInOrder rows = IsStrictlySortedBy (λ (a b : OwnerRow). section_cmp a.at b.at) rows

-- the region of a section, and None where no row names the section
abbrev pub owner_in : List OwnerRow → SectionPos → Option ℕ
owner_in [] s = None
owner_in (r ∷ rs) s = if same_section r.at s then Some r.region else owner_in rs s
