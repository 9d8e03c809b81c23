-- What a queue stands for: waiting tasks by number, each with the count of begun ticks at which it is due.
use Rattle.std.specs.Prelude.{ℕ, ◌-◌, ℤ, pos, nat_abs, ◌+ℤ◌, ◌≤ℤ◌, ◌^◌, Bool, nat_eq, nat_le, List, length, count_by, Option}
use Rattle.std.specs.List.{find}
use Rattle.std.specs.Option.{option_map}
use Rattle.fol_model.specs.declared.places.ChunkPos.{ChunkPos}
use Rattle.fol_model.specs.declared.tasks.Task.{Task}
use Rattle.fol_model.specs.Job.{Job, queued}
pub use Rattle.fol_keyed.specs.Options.{option_filter}
pub use Rattle.fol_keyed.specs.Members.{is_listed}
use Rattle.fol_queues.specs.declared.dated.Dated.{Dated}

-- what contracts see of a queue
pub record Waiting : Type 0 where
  -- in no stated order
  pub tasks : List Dated
  -- how many more tasks it can accept without taking memory
  pub spare : ℕ

-- the task of a number, in a list
abbrev pub dated_in : List Dated → ℕ → Option Dated
dated_in ds n = find (λ d. nat_eq d.task.number n) ds

-- the waiting task of a number
abbrev pub dated : Waiting → ℕ → Option Dated
dated q n = dated_in q.tasks n

-- the task of a number, in a list of tasks
abbrev pub task_in : List Task → ℕ → Option Task
task_in ts n = find (λ t. nat_eq t.number n) ts

-- how many tasks wait
abbrev pub len_of : Waiting → ℕ
len_of q = length q.tasks

-- the deadline is `now` or before it
abbrev pub is_due : ℕ → Dated → Bool
is_due now d = nat_le d.deadline now

abbrev pub due_count : ℕ → Waiting → ℕ
due_count now q = count_by (is_due now) q.tasks

-- the task's chunk is one of these
abbrev pub lies_listed : List ChunkPos → Dated → Bool
lies_listed chunks d = is_listed chunks d.task.chunk

abbrev pub count_listed : List ChunkPos → Waiting → ℕ
count_listed chunks q = count_by (lies_listed chunks) q.tasks

-- the same task with its deadline moved
abbrev pub raised : ℤ → Dated → Dated
raised offset d = record d { deadline = nat_abs (pos d.deadline +ℤ offset) }

-- the moved deadline is 1 to 2^63
pub record IsRaisable (offset : ℤ) (d : Dated) : Type 0 where
  pub low : pos 1 ≤ℤ (pos d.deadline +ℤ offset)
  pub high : (pos d.deadline +ℤ offset) ≤ℤ pos (2 ^ 63)

-- the task as the world has it queued: its rest is its deadline without the ticks begun so far
abbrev pub job_of : ℕ → Dated → Job
job_of begun d = queued d.task.chunk (d.deadline - begun) d.task.action

-- the queued tasks by number, for a region that has begun so many ticks
abbrev pub jobs_of : Waiting → ℕ → ℕ → Option Job
jobs_of q begun n = option_map (job_of begun) (dated q n)
