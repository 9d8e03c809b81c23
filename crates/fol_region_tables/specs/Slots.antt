-- The regions that are not Dead, each in a slot of its own, with its id and its state.
use Rattle.std.specs.Prelude.{ℕ, Bool, false, nat_eq, List, Option, Some, None}
use Rattle.std.specs.List.{slice_index_or}
use Rattle.fol_model.specs.declared.regions.State.{State}
use Rattle.fol_model.specs.declared.regions.State.TheVariants.{Dead}
use Rattle.fol_model.specs.Counting.{least}
use Rattle.fol_region_tables.specs.declared.slots.Region.{Region}

-- the region in each slot, if it has one; the slots have the numbers below `room`
pub record SlotTable : Type 0 where
  pub regions : List (Option Region)
  pub room : ℕ

abbrev pub region_at : SlotTable → ℕ → Option Region
region_at v k = slice_index_or v.regions k None

-- the slot's region has the id
abbrev pub has_id : ℕ → Option Region → Bool
has_id id None = false
has_id id (Some r) = nat_eq r.id id

-- the state of the slot's region
abbrev pub state_in : Option Region → State
state_in None = Dead
state_in (Some r) = r.state

-- the slot of a region, or `room` where it has none
unfoldable pub slot_of : SlotTable → ℕ → ℕ
slot_of v id = least (λ k. has_id id (region_at v k)) v.room

-- the state of a region; Dead where it has no slot
unfoldable pub slot_state : SlotTable → ℕ → State
slot_state v id = state_in (region_at v (slot_of v id))
