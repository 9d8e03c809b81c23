-- The things that lie in the data of a region: blocks with a number, standing entities and queued tasks.
use Rattle.std.specs.Prelude.{ℕ, ◌≤◌, ◌^◌, nat_eq, if◌then◌else◌, List, [], Option, Some, None}
use Rattle.std.specs.Option.{option_map, ForSome}
use Rattle.fol_model.specs.declared.places.ChunkPos.{ChunkPos}
use Rattle.fol_model.specs.declared.places.BlockPos.{BlockPos}
use Rattle.fol_model.specs.Geometry.{chunk_of}
use Rattle.fol_model.specs.ActionStep.{Standing}
use Rattle.fol_model.specs.Job.{Job}
use Rattle.fol_queues.specs.Waiting.{dated, dated_in, job_of}
use Rattle.fol_queues.specs.declared.dated.Dated.{Dated}
use Rattle.fol_chunks.specs.Contents.{flat_of}
use Rattle.fol_data.specs.Rests.{rests_of, IsInTime}
use Rattle.fol_data.specs.declared.region_data.RegionData.{RegionData}

-- what a thing is known by
pub data Key : Type 0 where
  of_block : BlockPos → Key
  of_entity : ℕ → Key
  of_task : ℕ → Key

abbrev pub Thing : Key → Type 0
Thing (of_block b) = ℕ
Thing (of_entity id) = Standing
Thing (of_task n) = Job

-- the chunk on which a thing lies
abbrev pub chunk_at : (k : Key) → Thing k → ChunkPos
chunk_at (of_block b) n = chunk_of b
chunk_at (of_entity id) s = chunk_of s.at
chunk_at (of_task n) j = j.chunk

-- a number above 0
abbrev pub some_number : ℕ → Option ℕ
some_number n = if nat_eq n 0 then None else Some n

abbrev pub things : RegionData → (k : Key) → Option (Thing k)
things r (of_block b) = some_number ((flat_of r.chunks).blocks b)
things r (of_entity id) = (flat_of r.chunks).standing id
things r (of_task n) = rests_of r n

-- tasks that wait with their rests as deadlines
abbrev pub arrived : List Dated → (k : Key) → Option (Thing k)
arrived ds (of_block b) = None
arrived ds (of_entity id) = None
arrived ds (of_task n) = option_map (job_of 0) (dated_in ds n)

-- the counter is small, and each deadline is ahead of it by 1 to 1,000,000
pub record IsTimely (r : RegionData) : Type 0 where
  pub tick : r.tick ≤ 2 ^ 62
  pub in_time : (n : ℕ) → ForSome (dated r.queues n) (IsInTime r.tick)

abbrev pub no_data : RegionData
no_data = record { tick = 0; owed = 0; queues = record { tasks = []; spare = 0 }; chunks = record { blocks = []; entities = []; spare = 0 } }
