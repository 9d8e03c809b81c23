-- Rows of queued tasks.
use Rattle.std.specs.Prelude.{ℕ, ◌-◌, nat_eq, List, Option}
use Rattle.std.specs.List.{find}
use Rattle.std.specs.Option.{option_map}
use Rattle.std.specs.Ordering.{nat_cmp}
use Rattle.std.specs.declared.cmp.Ordering.{Ordering}
use Rattle.fol_model.specs.Job.{Job, queued}
use Rattle.fol_model.specs.declared.closings.TaskRow.{TaskRow}
use Rattle.fol_queues.specs.declared.dated.Dated.{Dated}

-- the one with the lower number first
abbrev pub by_number : TaskRow → TaskRow → Ordering
by_number a b = nat_cmp a.task.number b.task.number

-- the task as the world has it queued
abbrev pub job_of_row : TaskRow → Job
job_of_row r = queued r.task.chunk r.rest r.task.action

-- the queued tasks by number
abbrev pub rows_of : List TaskRow → ℕ → Option Job
rows_of rows n = option_map job_of_row (find (λ r. nat_eq r.task.number n) rows)

-- the row of a task whose region has this counter
abbrev pub row_of : ℕ → Dated → TaskRow
row_of tick d = record { task = d.task; rest = d.deadline - tick }
