-- An accepted task until its tick ends.
use Rattle.std.specs.Prelude.{ℕ, Bool, false, nat_eq, if◌then◌else◌, List, [], ◌∷◌, Option, Some, None}
use Rattle.fol_model.specs.declared.places.ChunkPos.{ChunkPos}
use Rattle.fol_model.specs.declared.actions.Action.{Action}
use Rattle.fol_model.specs.declared.tasks.Task.{Task}
use Rattle.fol_model.specs.Geometry.{same_chunk}

-- a task that is queued, or that an open tick has taken
pub record Job : Type 0 where
  pub chunk : ChunkPos
  -- the number of ticks that the chunk's region has still to begin
  pub rest : ℕ
  pub action : Action
  -- the region whose open tick has taken it, and 0 while it is queued
  pub taker : ℕ

-- a task as it is accepted: it waits for its rest
abbrev pub queued : ChunkPos → ℕ → Action → Job
queued c d a = record { chunk = c; rest = d; action = a; taker = 0 }

-- the task is on the chunk
abbrev pub is_on : ChunkPos → Option Job → Bool
is_on c None = false
is_on c (Some j) = same_chunk j.chunk c

-- the open tick of r has taken the task
abbrev pub is_taken : ℕ → Option Job → Bool
is_taken r None = false
is_taken r (Some j) = nat_eq j.taker r

-- one task as a list, where the tick of r has taken it
abbrev pub taken_task : ℕ → ℕ → Option Job → List Task
taken_task r n None = []
taken_task r n (Some j) = if nat_eq j.taker r then (record { number = n; chunk = j.chunk; action = j.action }) ∷ [] else []
