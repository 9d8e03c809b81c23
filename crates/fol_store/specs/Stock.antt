-- What contracts see of a store: contents, queued tasks, and the bags of the regions.
use Rattle.std.specs.Prelude.{ℕ, ◌+◌, if◌then◌else◌, List, length, slice_index_or, Option}
use Rattle.std.specs.Option.{option_or, unwrap_or}
use Rattle.fol_model.specs.declared.places.ChunkPos.{ChunkPos}
use Rattle.fol_model.specs.Job.{Job}
use Rattle.fol_model.specs.ActionStep.{Flat}
use Rattle.fol_queues.specs.Waiting.{due_count, len_of}
use Rattle.fol_queues.specs.declared.dated.Dated.{Dated}
use Rattle.fol_data.specs.declared.region_data.RegionData.{RegionData}
use Rattle.fol_bags.specs.declared.slot.Slot.{Slot}
use Rattle.fol_bags.specs.declared.places.Place.{Place}
use Rattle.fol_store.specs.Bag.{Bag}
use Rattle.fol_store.specs.Columns.{first}
use Rattle.fol_bags.specs.Places.{PlaceRows, place_at}
use Rattle.fol_bags.specs.Things.{Key, of_block, of_entity, of_task, Thing, things, arrived, no_data}
use Rattle.fol_bags.specs.Slots.{no_slot}

pub record Stock : Type 0 where
  -- tasks that no spot has so far
  pub arrivals : List Dated
  -- by number: what lies on one chunk and in no bag
  pub spots : List RegionData
  -- by region
  pub bags : List Slot
  pub places : PlaceRows
  -- how many tasks it can accept without taking memory
  pub spare : ℕ
  -- how many bags it can open without taking memory
  pub slots : ℕ

abbrev pub slot : Stock → ℕ → Slot
slot s id = slice_index_or s.bags id no_slot

abbrev pub spot : Stock → ℕ → RegionData
spot s i = slice_index_or s.spots i no_data

abbrev pub place : Stock → ChunkPos → Place
place s c = place_at s.places c

-- a part of the store
pub data Where : Type 0 where
  arriving : Where
  in_spot : ℕ → Where
  in_bag : ℕ → Where

-- what the part has under a key
abbrev pub column : Stock → (k : Key) → Where → Option (Thing k)
column s k arriving = arrived s.arrivals k
column s k (in_spot i) = things (spot s i) k
column s k (in_bag id) = things (slot s id).body k

-- what the store has under a key
unfoldable pub found : Stock → (k : Key) → Option (Thing k)
found s k = option_or (arrived s.arrivals k) (option_or (first (λ r. things r k) s.spots) (first (λ (b : Slot). things b.body k) s.bags))

-- all blocks with a number and all standing entities
unfoldable pub flat_of : Stock → Flat
flat_of s = record { blocks = λ b. unwrap_or (found s (of_block b)) 0; standing = λ id. found s (of_entity id) }

-- the queued tasks by number, each with its rest
unfoldable pub jobs_of : Stock → ℕ → Option Job
jobs_of s n = found s (of_task n)

-- what contracts see of a bag
abbrev pub shown : Slot → Bag
shown b = record { here = b.here; taken = b.taken; tick = if b.here then b.body.tick else 0; owed = if b.here then b.body.owed else 0; listed = b.listed; calm = b.calm; chunks = b.chunks; since = b.since }

-- the bag of a region by its id
unfoldable pub bag_of : Stock → ℕ → Bag
bag_of s id = shown (slot s id)

-- the least id for which no bag was opened so far
unfoldable pub next_of : Stock → ℕ
next_of s = length s.bags

-- how many tasks wait in the bag
unfoldable pub waiting_of : Stock → ℕ → ℕ
waiting_of s id = len_of (slot s id).body.queues

-- how many tasks of the bag are due in the next so many ticks of its region
unfoldable pub due_by : ℕ → Stock → ℕ → ℕ
due_by n s id = due_count ((slot s id).body.tick + n) (slot s id).body.queues

-- how many tasks of the bag are due in the next tick of its region
abbrev pub due_of : Stock → ℕ → ℕ
due_of s id = due_by 1 s id
