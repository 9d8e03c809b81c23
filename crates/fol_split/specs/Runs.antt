-- Runs of sections, and which of them are left.
use Rattle.std.specs.Prelude.{◌≡◌, ℕ, ◌+◌, ◌<◌, ◌≤◌, ℤ, pos, ◌+ℤ◌, ◌-ℤ◌, ◌<ℤ◌, nat_abs, Bool, false, not, ◌&&◌, ◌||◌, nat_eq, int_le, int_lt, List, ◌++◌, length, map, flat_map, IsTrue}
use Rattle.std.specs.List.{All, IsDistinct, list_any, slice_index_or}
use Rattle.std.specs.List.Sorted.{IsStrictlySortedBy}
use Rattle.std.specs.Ordering.{int_eq, nat_cmp}
use Rattle.fol_model.specs.declared.places.TheConstants.{MOST_SECTIONS}
use Rattle.fol_model.specs.declared.places.SectionPos.{SectionPos}
use Rattle.fol_model.specs.Geometry.{is_section, is_among}
use Rattle.fol_model.specs.Universe.{section_cmp, from}
use Rattle.fol_split.specs.declared.runs.Run.{Run}
use Rattle.fol_split.specs.Parts.{IsJoined}

-- the sections of a run, in order
unfoldable pub sections_of : Run → List SectionPos
sections_of run = map (λ x. record { x = x; z = run.z }) (from run.from (nat_abs (run.to -ℤ run.from)))

-- the first section of a run
abbrev pub first_of : Run → SectionPos
first_of run = record { x = run.from; z = run.z }

-- the sections of all these runs, one run after another
abbrev pub all_of : List Run → List SectionPos
all_of runs = flat_map sections_of runs

-- what stands where there is no run
abbrev pub no_run : Run
no_run = record { z = pos 0; from = pos 0; to = pos 0 }

-- the run at a place
abbrev pub run_at : List Run → ℕ → Run
run_at runs k = slice_index_or runs k no_run

-- the sections of the runs at these places
abbrev pub sections_at : List Run → List ℕ → List SectionPos
sections_at runs places = flat_map (λ k. sections_of (run_at runs k)) places

-- runs of sections that are within the limits and in order, of which each has one at least
pub record AreRuns (runs : List Run) : Type 0 where
  pub few : length (all_of runs) ≤ MOST_SECTIONS
  pub solid : All (λ run. run.from <ℤ run.to) runs
  pub in_order : IsStrictlySortedBy section_cmp (all_of runs)
  pub in_range : All (λ s. IsTrue (is_section s)) (all_of runs)

-- what contracts see of runs: the runs in order, whether each is left, and the places of those that the last search took
pub record Marks : Type 0 where
  pub runs : List Run
  pub left : List Bool
  pub class : List ℕ

-- there is a run at this place, and it is left
abbrev pub is_left_at : Marks → ℕ → Bool
is_left_at m k = slice_index_or m.left k false

-- the place is one of these
abbrev pub is_place : List ℕ → ℕ → Bool
is_place places k = list_any (nat_eq k) places

-- the fields fit together
pub record IsMarked (m : Marks) : Type 0 where
  pub sound : AreRuns m.runs
  pub flags : length m.left ≡ length m.runs
  pub distinct : IsDistinct nat_eq m.class
  pub gone : (k : ℕ) → IsTrue (is_place m.class k) → (k < length m.runs) × (is_left_at m k ≡ false)

-- there is room for all runs
pub record HasRoom (in_runs in_left in_class : ℕ) : Type 0 where
  pub runs : MOST_SECTIONS ≤ in_runs
  pub left : MOST_SECTIONS ≤ in_left
  pub class : MOST_SECTIONS ≤ in_class

-- the runs at the places that pass the test were taken, behind those that were taken before
pub record TakesRuns (old new : Marks) (passes : ℕ → Bool) : Type 0 where
  pub runs : new.runs ≡ old.runs
  pub left : (k : ℕ) → is_left_at new k ≡ (is_left_at old k && not (passes k))
  pub class : (more : List ℕ) × (new.class ≡ old.class ++ more)
  pub members : (k : ℕ) → is_place new.class k ≡ (is_place old.class k || (is_left_at old k && passes k))

-- the run ends in a row before z, or in the row z before it comes to x
unfoldable pub ends_before : ℤ → ℤ → Run → Bool
ends_before z x run = int_lt run.z z || (int_eq run.z z && int_le run.to x)

-- the run stands in the row z and begins before x
unfoldable pub begins_before : ℤ → ℤ → Run → Bool
begins_before z x run = int_eq run.z z && int_lt run.from x

-- y is one of n numbers from x on
unfoldable pub is_one_of : ℤ → ℕ → ℤ → Bool
is_one_of x n y = int_le x y && int_lt y (x +ℤ pos n)

-- the run ends behind low and begins before high
unfoldable pub is_across : ℤ → ℤ → Run → Bool
is_across low high run = int_lt low run.to && int_lt run.from high

-- the run stands in the row z, ends behind low and begins before high
abbrev pub is_met : ℤ → ℤ → ℤ → Run → Bool
is_met z low high run = int_eq z run.z && is_across low high run

-- the same in one of n rows from z on
abbrev pub is_met_in : ℤ → ℕ → ℤ → ℤ → Run → Bool
is_met_in z n low high run = is_one_of z n run.z && is_across low high run

-- the rows of the two runs are at most merge apart, and so is what lies between their sections in x
abbrev pub is_near : ℕ → Run → Run → Bool
is_near merge a b = is_met_in (a.z -ℤ pos merge) (merge + merge + 1) (a.from -ℤ pos merge) (a.to +ℤ pos merge) b

-- the places of the runs that were taken are in order now
pub record SortsClass (old new : Marks) : Type 0 where
  pub runs : new.runs ≡ old.runs
  pub left : new.left ≡ old.left
  pub rising : IsStrictlySortedBy nat_cmp new.class
  pub members : (k : ℕ) → is_place new.class k ≡ is_place old.class k

-- just the runs were taken that are joined with the one at the place first; the last search took no others
pub record IsClass (old new : Marks) (merge first : ℕ) : Type 0 where
  pub runs : new.runs ≡ old.runs
  pub sound : AreRuns old.runs
  pub left : (k : ℕ) → is_left_at new k ≡ (is_left_at old k && not (is_place new.class k))
  pub was_left : (k : ℕ) → IsTrue (is_place new.class k) → (k < length old.runs) × IsTrue (is_left_at old k)
  pub rising : IsStrictlySortedBy nat_cmp new.class
  pub started : IsTrue (is_place new.class first)
  pub joined : (k : ℕ) (s : SectionPos) → IsTrue (is_place new.class k) → IsTrue (is_among (sections_of (run_at old.runs k)) s)
      → IsJoined (all_of old.runs) merge (first_of (run_at old.runs first)) s
  pub closed : (k j : ℕ) → IsTrue (is_place new.class k) → IsTrue (is_left_at new j) → is_near merge (run_at old.runs k) (run_at old.runs j) ≡ false
