-- How much of the data of a region lies on some chunks.
use Rattle.std.specs.Prelude.{List}
use Rattle.fol_model.specs.declared.places.ChunkPos.{ChunkPos}
use Rattle.fol_queues.specs.Waiting.{is_listed, count_listed}
use Rattle.fol_chunks.specs.Contents.{size_within}
use Rattle.fol_data.specs.declared.region_data.RegionData.{RegionData}
use Rattle.fol_data.specs.declared.size.Size.{Size}

-- how many tasks are on the chunks, and how many blocks and entities lie in them
abbrev pub size_listed : List ChunkPos → RegionData → Size
size_listed chunks r = record { tasks = count_listed chunks r.queues; things = size_within (is_listed chunks) r.chunks }
