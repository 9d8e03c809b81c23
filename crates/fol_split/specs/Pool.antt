-- A pool of sections, of which some were taken.
use Rattle.std.specs.Prelude.{◌≡◌, ℕ, ◌<◌, ◌≤◌, Bool, false, not, ◌&&◌, List, [], ◌++◌, length, IsTrue, ◌↔◌}
use Rattle.std.specs.List.{IsDistinct}
use Rattle.std.specs.List.Sorted.{IsStrictlySortedBy}
use Rattle.fol_model.specs.declared.places.TheConstants.{MOST_SECTIONS}
use Rattle.fol_model.specs.declared.places.SectionPos.{SectionPos}
use Rattle.fol_model.specs.Geometry.{is_within, same_section, is_among}
use Rattle.fol_model.specs.Universe.{section_cmp}
use Rattle.fol_split.specs.declared.runs.Run.{Run}
use Rattle.fol_split.specs.Parts.{IsJoined}
use Rattle.fol_split.specs.Runs.{Marks, all_of, run_at, sections_of, is_left_at}

-- what contracts see of a pool: the runs of all its sections in order, and the sections that were taken, in the order in which they were
pub record Taken : Type 0 where
  pub runs : List Run
  pub found : List SectionPos

-- the section is in the pool and was not taken
abbrev pub is_left : Taken → SectionPos → Bool
is_left p s = is_among (all_of p.runs) s && not (is_among p.found s)

-- a pool has room for all its sections
pub record HasRoom (in_order in_found : ℕ) : Type 0 where
  pub order : MOST_SECTIONS ≤ in_order
  pub found : MOST_SECTIONS ≤ in_found

-- the fields of a pool fit together: of a run that is left no section was taken, and of another one each
pub record IsPool (m : Marks) (found : List SectionPos) : Type 0 where
  pub few : length (all_of m.runs) ≤ MOST_SECTIONS
  pub distinct : IsDistinct same_section found
  pub within : (s : SectionPos) → IsTrue (is_among found s) → IsTrue (is_among (all_of m.runs) s)
  pub taken : (k : ℕ) (s : SectionPos) → k < length m.runs → IsTrue (is_among (sections_of (run_at m.runs k)) s) → is_among found s ≡ not (is_left_at m k)

-- no section that was taken is near one that is left
abbrev pub IsApart : Taken → ℕ → Type 0
IsApart p merge = (a b : SectionPos) → IsTrue (is_among p.found a) → IsTrue (is_left p b) → is_within a merge b ≡ false

-- what is joined with the first section was taken, in order and behind what was taken before
pub record TakesClass (old new : Taken) (merge : ℕ) (first : SectionPos) (more : List SectionPos) : Type 0 where
  pub runs : new.runs ≡ old.runs
  pub found : new.found ≡ old.found ++ more
  pub in_order : IsStrictlySortedBy section_cmp more
  pub was_left : (s : SectionPos) → IsTrue (is_among more s) → IsTrue (is_left old s)
  pub class : (s : SectionPos) → IsTrue (is_among more s) ↔ (IsTrue (is_among (all_of old.runs) s) × IsJoined (all_of old.runs) merge first s)

-- a pool of just these sections, of which none was taken
pub record IsLoaded (p : Taken) (sections : List SectionPos) : Type 0 where
  pub members : (s : SectionPos) → is_among (all_of p.runs) s ≡ is_among sections s
  pub found : p.found ≡ []
