-- Steps of a gathering.
use Rattle.std.specs.Prelude.{ℕ, ◌≡◌, ◌≢◌, ◌≤◌, true, false, List, [], length, Some}
use Rattle.fol_model.specs.declared.places.ChunkPos.{ChunkPos}
use Rattle.fol_model.specs.Geometry.{same_chunk}
use Rattle.fol_chunks.specs.Contents.{is_recorded}
use Rattle.fol_bags.specs.Things.{Key, Thing, chunk_at}
use Rattle.fol_store.specs.Stock.{Stock, Where, in_bag, slot, place, column, found, flat_of, jobs_of, bag_of, next_of}
use Rattle.fol_store.specs.Gathered.{OthersSpared, AreFree, IsClear}

-- nothing comes and nothing goes
pub record SameMeaning (old new : Stock) : Type 0 where
  pub found : (k : Key) → found new k ≡ found old k
  pub bags : length new.bags ≡ length old.bags
  pub spare : old.spare ≤ new.spare
  pub slots : old.slots ≤ new.slots

-- only how much more a bag can take in may differ
pub record Roomier (old new : Stock) : Type 0 where
  pub found : (k : Key) → found new k ≡ found old k
  pub places : new.places ≡ old.places
  pub arrivals : new.arrivals ≡ old.arrivals
  pub contents : flat_of new ≡ flat_of old
  pub tasks : jobs_of new ≡ jobs_of old
  pub bags : bag_of new ≡ bag_of old
  pub next : next_of new ≡ next_of old
  pub spare : new.spare ≡ old.spare
  pub slots : new.slots ≡ old.slots

-- the bag has the chunk, is here, and has room for a task
pub record TakesTask (s : Stock) (c : ChunkPos) (id : ℕ) : Type 0 where
  pub home : (place s c).bag ≡ Some id
  pub here : (slot s id).here ≡ true
  pub room : 1 ≤ (slot s id).body.queues.spare

-- contents and tasks stay, and no room is lost
pub record SameWorld (old new : Stock) : Type 0 where
  pub contents : flat_of new ≡ flat_of old
  pub tasks : jobs_of new ≡ jobs_of old
  pub next : next_of new ≡ next_of old
  pub spare : old.spare ≤ new.spare
  pub slots : old.slots ≤ new.slots

-- all that lies on the chunk lies in the bag
pub record IsGathered (s : Stock) (id : ℕ) (c : ChunkPos) : Type 0 where
  pub place : (place s c).bag ≡ Some id
  pub alone : (k : Key) (w : Where) (x : Thing k) → column s k w ≡ Some x → same_chunk c (chunk_at k x) ≡ true → w ≡ in_bag id

-- a step towards a bag of these chunks: no other bag changes but for its wholeness
pub record Draws (id : ℕ) (chunks : List ChunkPos) (old new : Stock) : Type 0 where
  pub same : SameMeaning old new
  pub arrivals : new.arrivals ≡ old.arrivals
  pub own : bag_of new id ≡ bag_of old id
  pub others : OthersSpared id chunks (bag_of old) (bag_of new)
  pub gathered : (c : ChunkPos) → IsGathered old id c → IsGathered new id c

-- the bag that is being gathered for these chunks
pub record IsTarget (id : ℕ) (chunks : List ChunkPos) (s : Stock) : Type 0 where
  pub here : (bag_of s id).here ≡ true
  pub not_listed : (bag_of s id).listed ≡ false
  pub chunks_are : (bag_of s id).chunks ≡ chunks
  pub empty : s.arrivals ≡ []
  pub free : AreFree (bag_of s) chunks

-- a listed bag that has the chunk and is not calm knows that tasks may lie in the chunk's spot
abbrev pub IsNoted : Stock → ChunkPos → Type 0
IsNoted s c = (id : ℕ) → (place s c).bag ≡ Some id → (slot s id).listed ≡ true → (slot s id).calm ≡ false → is_recorded (slot s id).touched c ≡ true

-- what lies on the chunks of the bag lies in it, or in the spots of those of them that were noted
pub record IsReopened (id : ℕ) (chunks touched : List ChunkPos) (s : Stock) : Type 0 where
  pub target : IsTarget id chunks s
  pub homes : (c : ChunkPos) → is_recorded chunks c ≡ true → (place s c).bag ≡ Some id
  pub rest : (c : ChunkPos) → is_recorded chunks c ≡ true → is_recorded touched c ≡ false → IsGathered s id c
  pub others : (u : ℕ) → u ≢ id → (bag_of s u).listed ≡ true → IsClear chunks (bag_of s u)
