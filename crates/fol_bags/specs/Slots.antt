-- The bags by region, and the spots by number.
use Rattle.std.specs.Prelude.{ℕ, ◌≡◌, nat_eq, if◌then◌else◌, length, Bool, not, ◌&&◌, List, slice_index_or, Option, Some, None, false, [], ◌||◌}
use Rattle.std.specs.Global.{Box}
use Rattle.fol_data.specs.declared.region_data.RegionData.{RegionData}
use Rattle.fol_bags.specs.declared.slot.Slot.{Slot}
use Rattle.fol_bags.specs.Things.{no_data}

-- of an id that no region had so far
abbrev pub no_slot : Slot
no_slot = record { body = no_data; here = false; taken = false; listed = false; calm = false; chunks = []; list = []; touched = []; since = [] }

-- what contracts see of the bags
pub record BagRows : Type 0 where
  -- by region
  pub items : List Slot
  -- how many more can be opened without taking memory
  pub free : ℕ

-- the bag behind a pointer, if there is one
abbrev pub slot_behind : Option (Box Slot) → Slot
slot_behind None = no_slot
slot_behind (Some b) = b.value

abbrev pub slot_in : List Slot → ℕ → Slot
slot_in bags id = slice_index_or bags id no_slot

-- a region has the bag, or a worker has it
abbrev pub is_open : Slot → Bool
is_open b = b.here || b.taken

-- the bag of one id is this one now; every other bag stays, and so does how many more can be opened
pub record SetsSlot (id : ℕ) (b : Slot) (old new : BagRows) : Type 0 where
  pub slots : (u : ℕ) → slot_in new.items u ≡ (if nat_eq id u then b else slot_in old.items u)
  pub len : length new.items ≡ length old.items
  pub free : new.free ≡ old.free

-- the same of two ids that differ
pub record SetsTwo (id : ℕ) (b : Slot) (other : ℕ) (d : Slot) (old new : BagRows) : Type 0 where
  pub slots : (u : ℕ) → slot_in new.items u ≡ (if nat_eq id u then b else (if nat_eq other u then d else slot_in old.items u))
  pub len : length new.items ≡ length old.items
  pub free : new.free ≡ old.free

abbrev pub spot_in : List RegionData → ℕ → RegionData
spot_in spots i = slice_index_or spots i no_data

-- every other spot stays
abbrev pub ChangesSpot : ℕ → List RegionData → List RegionData → Type 0
ChangesSpot i old new = (n : ℕ) → spot_in new n ≡ (if nat_eq i n then spot_in new i else spot_in old n)

-- whether the bag is calm after a task came on one of its chunks
abbrev pub stays_calm : Slot → Bool
stays_calm b = b.calm && not b.listed
