-- What holds of a store at all times.
use Rattle.std.specs.Prelude.{ℕ, ◌≡◌, ◌<◌, true, false, ◌||◌, ◌&&◌, [], length, Some, All}
use Rattle.fol_model.specs.declared.places.ChunkPos.{ChunkPos}
use Rattle.fol_chunks.specs.Contents.{is_recorded}
use Rattle.fol_queues.specs.Distinct.{Distinct}
use Rattle.fol_data.specs.Rests.{IsInTime}
use Rattle.fol_bags.specs.declared.slot.Slot.{Slot}
use Rattle.fol_bags.specs.declared.places.Place.{Place}
use Rattle.fol_bags.specs.Things.{Key, Thing, chunk_at, IsTimely}
use Rattle.fol_store.specs.Stock.{Stock, Where, arriving, in_spot, in_bag, slot, spot, place, column}
use Rattle.fol_bags.specs.Slots.{is_open}

-- things of a chunk with this place may lie there
abbrev pub Allows : Place → Where → Type 0
Allows p arriving = Unit {0}
Allows p (in_spot i) = p.spot ≡ Some i
Allows p (in_bag id) = p.bag ≡ Some id

-- where a thing on a chunk of a listed bag may lie
abbrev pub Near : ℕ → Slot → ChunkPos → Where → Type 0
Near id b c arriving = b.calm ≡ true → ⊥
Near id b c (in_spot i) = is_recorded b.touched c ≡ true
Near id b c (in_bag u) = u ≡ id

pub record IsBag (s : Stock) (id : ℕ) (b : Slot) : Type 0 where
  -- a chunk whose things may lie in it is one of its chunks
  pub claims : is_open b ≡ true → (c : ChunkPos) → (place s c).bag ≡ Some id → is_recorded b.chunks c ≡ true
  -- the things of its chunks may lie in it
  pub held : (b.listed || b.taken) ≡ true → (c : ChunkPos) → is_recorded b.chunks c ≡ true → (place s c).bag ≡ Some id
  -- what lies on its chunks lies in it, but for the tasks that came
  pub near : b.listed ≡ true → (k : Key) (w : Where) (x : Thing k) → column s k w ≡ Some x → is_recorded b.chunks (chunk_at k x) ≡ true → Near id b (chunk_at k x) w
  -- nothing came to a calm one
  pub untouched : b.listed ≡ true → b.calm ≡ true → b.touched ≡ []
  pub opened : b.listed ≡ true → is_open b ≡ true
  pub one : (b.here && b.taken) ≡ false
  -- nothing is left of a bag that a worker has
  pub out : b.taken ≡ true → (k : Key) (x : Thing k) → column s k (in_bag id) ≡ Some x → ⊥
  -- its chunks are there, unless a worker has them
  pub list : b.taken ≡ false → b.list ≡ b.chunks

pub record IsSound (s : Stock) : Type 0 where
  -- no thing lies in two parts
  pub unique : (k : Key) (v w : Where) (x y : Thing k) → column s k v ≡ Some x → column s k w ≡ Some y → v ≡ w
  pub lies : (k : Key) (w : Where) (x : Thing k) → column s k w ≡ Some x → Allows (place s (chunk_at k x)) w
  pub spot_range : (c : ChunkPos) (i : ℕ) → (place s c).spot ≡ Some i → i < length s.spots
  pub bag_range : (c : ChunkPos) (id : ℕ) → (place s c).bag ≡ Some id → id < length s.bags
  pub bags : (id : ℕ) → IsBag s id (slot s id)
  pub spot_times : (i : ℕ) → IsTimely (spot s i)
  pub bag_times : (id : ℕ) → IsTimely (slot s id).body
  pub arrival_times : All (IsInTime 0) s.arrivals
  pub arrivals_differ : Distinct s.arrivals
