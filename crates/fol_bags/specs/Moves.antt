-- Things that go from the data of one region to that of another.
use Rattle.std.specs.Prelude.{◌≡◌, ℕ, not, nat_eq, if◌then◌else◌, List, Some}
use Rattle.std.specs.Option.{option_or}
use Rattle.fol_model.specs.declared.places.ChunkPos.{ChunkPos}
use Rattle.fol_queues.specs.Waiting.{option_filter}
use Rattle.fol_chunks.specs.Contents.{is_recorded, flat_of}
use Rattle.fol_model.specs.Job.{queued}
use Rattle.fol_model.specs.ActionStep.{at_block, at_id, standing_of}
use Rattle.fol_model.specs.declared.places.BlockPos.{BlockPos}
use Rattle.fol_model.specs.declared.entities.Entity.{Entity}
use Rattle.fol_queues.specs.declared.dated.Dated.{Dated}
use Rattle.fol_data.specs.Rests.{rests_of}
use Rattle.fol_data.specs.declared.region_data.RegionData.{RegionData}
use Rattle.fol_bags.specs.Things.{Key, Thing, things, chunk_at}

-- no thing lies in both
abbrev pub AreApart : RegionData → RegionData → Type 0
AreApart a b = (k : Key) (x y : Thing k) → things a k ≡ Some x → things b k ≡ Some y → ⊥

-- the same things under the same counters
pub record SameThings (old new : RegionData) : Type 0 where
  pub things : (k : Key) → things new k ≡ things old k
  pub tick : new.tick ≡ old.tick
  pub owed : new.owed ≡ old.owed

-- what lies on the chunks is gone
pub record Loses (chunks : List ChunkPos) (old new : RegionData) : Type 0 where
  pub things : (k : Key) → things new k ≡ option_filter (λ x. not (is_recorded chunks (chunk_at k x))) (things old k)
  pub tick : new.tick ≡ old.tick
  pub owed : new.owed ≡ old.owed

-- what lies on the chunks in the other came
pub record Gains (chunks : List ChunkPos) (other old new : RegionData) : Type 0 where
  pub things : (k : Key) → things new k ≡ option_or (things old k) (option_filter (λ x. is_recorded chunks (chunk_at k x)) (things other k))
  pub tick : new.tick ≡ old.tick
  pub owed : new.owed ≡ old.owed

-- a task came, with its deadline as its rest
pub record Queues (d : Dated) (old new : RegionData) : Type 0 where
  pub tasks : (n : ℕ) → rests_of new n ≡ (if nat_eq d.task.number n then Some (queued d.task.chunk d.deadline d.task.action) else rests_of old n)
  pub contents : flat_of new.chunks ≡ flat_of old.chunks
  pub tick : new.tick ≡ old.tick
  pub owed : new.owed ≡ old.owed

-- a block got a number
pub record LaysBlock (at : BlockPos) (id : ℕ) (old new : RegionData) : Type 0 where
  pub contents : flat_of new.chunks ≡ record (flat_of old.chunks) { blocks = at_block (flat_of old.chunks).blocks at id }
  pub tasks : (n : ℕ) → rests_of new n ≡ rests_of old n

-- an entity came
pub record LaysEntity (e : Entity) (old new : RegionData) : Type 0 where
  pub contents : flat_of new.chunks ≡ record (flat_of old.chunks) { standing = at_id (flat_of old.chunks).standing e.id (Some (standing_of e)) }
  pub tasks : (n : ℕ) → rests_of new n ≡ rests_of old n
