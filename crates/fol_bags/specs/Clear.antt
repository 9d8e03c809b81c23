-- Data in which nothing lies on a chunk.
use Rattle.std.specs.Prelude.{ℕ, ◌≡◌, false, Option, Some}
use Rattle.fol_model.specs.declared.places.ChunkPos.{ChunkPos}
use Rattle.fol_model.specs.Geometry.{same_chunk}
use Rattle.fol_model.specs.Job.{Job, is_on}
use Rattle.fol_data.specs.declared.region_data.RegionData.{RegionData}
use Rattle.fol_bags.specs.Things.{Key, Thing, things, chunk_at}

-- nothing in it lies on the chunk
abbrev pub IsClearOf : ChunkPos → RegionData → Type 0
IsClearOf c r = (k : Key) (x : Thing k) → things r k ≡ Some x → same_chunk c (chunk_at k x) ≡ false

-- none of the tasks is on the chunk
abbrev pub HasNoTask : ChunkPos → (ℕ → Option Job) → Type 0
HasNoTask c jobs = (n : ℕ) → is_on c (jobs n) ≡ false
