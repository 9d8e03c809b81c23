-- The parts into which sections fall: two are in one part exactly where a list of these sections leads from one to the other.
use Rattle.std.specs.Prelude.{◌≡◌, ◌↔◌, ℕ, ◌<◌, IsTrue, List, [], ◌∷◌, length, pos}
use Rattle.std.specs.List.{All, list_any, slice_index_or}
use Rattle.std.specs.List.Sorted.{IsStrictlySortedBy}
use Rattle.std.specs.Ordering.{on}
use Rattle.fol_model.specs.declared.places.SectionPos.{SectionPos}
use Rattle.fol_model.specs.Geometry.{is_within, is_among}
use Rattle.fol_model.specs.Universe.{section_cmp}

-- from a by the sections of ms to b: each of ms is one of the sections, and within the merge radius of the one before it
abbrev pub IsChain : List SectionPos → ℕ → SectionPos → List SectionPos → SectionPos → Type 0
IsChain sections merge a [] b = a ≡ b
IsChain sections merge a (m ∷ ms) b = IsTrue (is_among sections m) × IsTrue (is_within a merge m) × IsChain sections merge m ms b

-- a list of the sections leads from a to b
abbrev pub IsJoined : List SectionPos → ℕ → SectionPos → SectionPos → Type 0
IsJoined sections merge a b = (ms : List SectionPos) × IsChain sections merge a ms b

-- some of the sections, in order, and with each of them just those that are joined with it
pub record IsPart (sections : List SectionPos) (merge : ℕ) (part : List SectionPos) : Type 0 where
  pub some : 0 < length part
  pub in_order : IsStrictlySortedBy section_cmp part
  pub whole : (a b : SectionPos) → IsTrue (is_among part a) → IsTrue (is_among part b) ↔ (IsTrue (is_among sections b) × IsJoined sections merge a b)

-- the first section of a part
abbrev pub least_of : List SectionPos → SectionPos
least_of part = slice_index_or part 0 (record { x = pos 0; z = pos 0 })

-- all the parts, in order of their least section
pub record ArePartsOf (sections : List SectionPos) (merge : ℕ) (parts : List (List SectionPos)) : Type 0 where
  pub classes : All (IsPart sections merge) parts
  pub cover : (s : SectionPos) → IsTrue (is_among sections s) → IsTrue (list_any (λ part. is_among part s) parts)
  pub by_least : IsStrictlySortedBy (on least_of section_cmp) parts
