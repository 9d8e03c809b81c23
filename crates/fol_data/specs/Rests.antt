-- The tasks of a region with their rests, and how deadlines follow a region's counter.
use Rattle.std.specs.Prelude.{ℕ, ◌+◌, ◌≤◌, ℤ, pos, ◌-ℤ◌, Bool, List, Option}
use Rattle.fol_model.specs.declared.places.ChunkPos.{ChunkPos}
use Rattle.fol_model.specs.Job.{Job}
use Rattle.fol_queues.specs.declared.dated.Dated.{Dated}
use Rattle.fol_queues.specs.Waiting.{jobs_of, is_listed}
use Rattle.fol_data.specs.declared.region_data.RegionData.{RegionData}

-- the queued tasks by number, each with its rest: its deadline without the counter
abbrev pub rests_of : RegionData → ℕ → Option Job
rests_of r n = jobs_of r.queues r.tick n

-- the task is on one of the chunks
abbrev pub is_job_listed : List ChunkPos → Job → Bool
is_job_listed chunks j = is_listed chunks j.chunk

-- what is added to a deadline so that it is as far ahead of the counter `to` as it was of the counter `from`
abbrev pub offset : ℕ → ℕ → ℤ
offset from to = pos to -ℤ pos from

-- the deadline is ahead of the counter by 1 to 1,000,000
pub record IsInTime (tick : ℕ) (d : Dated) : Type 0 where
  pub low : tick + 1 ≤ d.deadline
  pub high : d.deadline ≤ tick + 1000000
