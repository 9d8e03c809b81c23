-- Which region's tick lies in which slot.
use Rattle.std.specs.Prelude.{ℕ, ◌≡◌, ◌<◌, List, length, nat_eq, slice_index_or, Option, Some, None}
use Rattle.std.specs.List.{count_by}

-- the region of a slot, and 0 where it is not in use
abbrev pub region_at : List ℕ → ℕ → ℕ
region_at regions i = slice_index_or regions i 0

-- the slot of a region in a list of them by region, if it has one
abbrev pub slot_in : List (Option ℕ) → ℕ → Option ℕ
slot_in slots r = slice_index_or slots r None

-- the slots are those of the regions in the list, and no others
pub record AreMatched (regions : List ℕ) (slots : List (Option ℕ)) : Type 0 where
  pub there : (r i : ℕ) → slot_in slots r ≡ Some i → (0 < r) × (i < length regions) × (region_at regions i ≡ r)
  pub all : (i : ℕ) → 0 < region_at regions i → slot_in slots (region_at regions i) ≡ Some i

-- a slot in a list of them
abbrev pub slot_at : List ℕ → ℕ → ℕ
slot_at slots k = slice_index_or slots k 0

-- the list has each slot that is not in use, once
pub record AreFree (regions free : List ℕ) : Type 0 where
  pub inside : (k : ℕ) → k < length free → slot_at free k < length regions
  pub unused : (k : ℕ) → k < length free → region_at regions (slot_at free k) ≡ 0
  pub apart : (j k : ℕ) → j < length free → k < length free → slot_at free j ≡ slot_at free k → j ≡ k
  pub count : length free ≡ count_by (nat_eq 0) regions
