-- How the slots of the regions are found.
use Rattle.std.specs.Prelude.{◌≡◌, ◌≢◌, Bool, true, ℕ, ◌≤◌, List, Option, Some, None, count_by, is_some, nat_eq, nat_lt}
use Rattle.std.specs.List.{IsDistinct, list_any, slice_index_or}
use Rattle.std.specs.List.Sorted.{IsNonDecreasingBy}
use Rattle.slab.specs.Slab.{Slab}
use Rattle.fol_region_tables.specs.Slots.{SlotTable, slot_of}
use Rattle.fol_region_tables.specs.declared.slots.Region.{Region}
use Rattle.fol_region_tables.specs.declared.slots.TheConstants.{UNKNOWN}
use Rattle.fol_model.specs.declared.places.TheConstants.{MOST_SECTIONS}

-- the key of an id
abbrev pub key_at : List ℕ → ℕ → ℕ
key_at keys id = slice_index_or keys id UNKNOWN

-- each region is in one slot, and where its key is known it leads there
pub record AreKeys (regions : List (Option Region)) (room : ℕ) (keys : List ℕ) : Type 0 where
  pub one : (j k : ℕ) (q r : Region) → slice_index_or regions j None ≡ Some q → slice_index_or regions k None ≡ Some r → q.id ≡ r.id → j ≡ k
  pub found : (k : ℕ) (r : Region) → slice_index_or regions k None ≡ Some r → key_at keys r.id ≢ UNKNOWN → key_at keys r.id ≡ k
  pub within : (k : ℕ) → room ≤ k → slice_index_or regions k None ≡ None
  pub most : MOST_SECTIONS ≤ room

-- the table that a slab of regions is
abbrev pub table_of : Slab Region → SlotTable
table_of regions = record { regions = regions.slots; room = regions.capacity }

-- whether a region has a slot
abbrev pub has_slot : SlotTable → ℕ → Bool
has_slot v id = nat_lt (slot_of v id) v.room

-- among the ids, each once and rising, are those of the regions that have a slot, and there is memory for at least as many as there are slots
pub record AreLiving (v : SlotTable) (ids : List ℕ) (capacity : ℕ) : Type 0 where
  pub rising : IsNonDecreasingBy (λ x. x) ids
  pub distinct : IsDistinct nat_eq ids
  pub members : (id : ℕ) → has_slot v id ≡ true → list_any (nat_eq id) ids ≡ true
  pub count : count_by (has_slot v) ids ≡ count_by is_some v.regions
  pub fits : v.room ≤ capacity
