-- Loads, unloads and posts: a hold added or removed of a chunk.
use Rattle.std.specs.Prelude.{ℕ, ◌+◌, ◌-◌, nat_eq, if◌then◌else◌, Some}
use Rattle.fol_model.specs.Job.{queued}
use Rattle.fol_model.specs.declared.places.ChunkPos.{ChunkPos}
use Rattle.fol_model.specs.Geometry.{same_chunk}
use Rattle.fol_model.specs.GridState.{present_count}
use Rattle.fol_model.specs.Add.{add, is_full, wanted}
use Rattle.fol_model.specs.Drop.{drop_hold}
use Rattle.fol_model.specs.Counters.{owed_after_add}
use Rattle.fol_model.specs.ActionStep.{at_id}
use Rattle.fol_model.specs.World.{World}
use Rattle.fol_model.specs.declared.events.Accept.{Accept}
use Rattle.fol_model.specs.declared.events.Accept.TheVariants as accept
use Rattle.fol_model.specs.declared.actions.Action.{Action}

-- the grid with one more hold of the chunk, and what its regions owe then
abbrev pub held_more : World → ChunkPos → World
held_more w c = record w { grid = add w.grid c; owed = owed_after_add w.grid c w.owed }

unfoldable pub loaded : World → ChunkPos → World
loaded w c = if is_full w.grid c then w else record (held_more w c) { tickets = λ q. if same_chunk c q then w.tickets c + 1 else w.tickets q }

unfoldable pub unloaded : World → ChunkPos → World
unloaded w c = if nat_eq (w.tickets c) 0 then w else record w { grid = drop_hold w.grid c; tickets = λ q. if same_chunk c q then w.tickets c - 1 else w.tickets q }

unfoldable pub posted : World → ChunkPos → ℕ → Action → World
posted w c d a = if is_full w.grid c then w else record (held_more w c) { jobs = at_id w.jobs w.next_job (Some (queued c d a)); next_job = w.next_job + 1 }

abbrev pub posting : World → ChunkPos → Accept
posting w c = if is_full w.grid c then accept.Full (present_count w.grid) (wanted w.grid c) else accept.Posted w.next_job
