-- Lists of sections, each in order, by number.
use Rattle.std.specs.Prelude.{◌≡◌, ℕ, ◌≤◌, true, false, ◌||◌, List, ◌++◌, filter}
use Rattle.std.specs.List.{AllByRecursion}
use Rattle.std.specs.List.Sorted.{IsStrictlySortedBy}
use Rattle.std.specs.declared.cmp.Ordering.TheVariants.{Less}
use Rattle.fol_model.specs.declared.places.TheConstants.{MOST_SECTIONS}
use Rattle.fol_model.specs.declared.places.SectionPos.{SectionPos}
use Rattle.fol_model.specs.Geometry.{is_section, is_among}
use Rattle.fol_model.specs.Universe.{all_sections, section_cmp}

-- the sections of both lists, in order
unfoldable pub united : List SectionPos → List SectionPos → List SectionPos
united xs ys = filter (λ s. is_among xs s || is_among ys s) all_sections

-- sections in order, each within the limits
pub record IsRow (xs : List SectionPos) : Type 0 where
  pub in_order : IsStrictlySortedBy section_cmp xs
  pub limits : (s : SectionPos) → is_among xs s ≡ true → is_section s ≡ true

-- no section is among both
abbrev pub AreApart : List SectionPos → List SectionPos → Type 0
AreApart xs ys = (s : SectionPos) → is_among xs s ≡ true → is_among ys s ≡ false

-- there is room for all present sections
pub record AreRows (total room in_moved in_made : ℕ) : Type 0 where
  pub fits : total ≤ MOST_SECTIONS
  pub most : room ≡ MOST_SECTIONS
  pub moved : MOST_SECTIONS ≤ in_moved
  pub made : 64 ≤ in_made

-- the sections at the front that are before another one stand behind a list now, and the others are left
pub record MovesFront (s : SectionPos) (sections old new left : List SectionPos) : Type 0 where
  pub front : List SectionPos
  pub whole : sections ≡ front ++ left
  pub put : new ≡ old ++ front
  pub before : AllByRecursion (λ x. section_cmp x s ≡ Less) front
