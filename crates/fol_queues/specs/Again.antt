-- Tasks that wait again.
use Rattle.std.specs.Prelude.{ℕ, ◌||◌, ◌++◌, List, Option, IsTrue, map}
use Rattle.std.specs.Option.{is_none, option_map, option_or}
use Rattle.fol_model.specs.declared.tasks.Task.{Task}
use Rattle.fol_queues.specs.declared.dated.Dated.{Dated}
use Rattle.fol_queues.specs.Waiting.{task_in}

-- the task waits with this deadline
abbrev pub dated_at : ℕ → Task → Dated
dated_at deadline t = record { task = t; deadline = deadline }

-- the tasks, and those that came back and wait with this deadline
abbrev pub with_again : List Dated → List Task → ℕ → List Dated
with_again ds again deadline = ds ++ map (dated_at deadline) again

-- these tasks wait besides the others, with this deadline
abbrev pub queued_again : ℕ → List Task → (ℕ → Option Dated) → ℕ → Option Dated
queued_again deadline ts f n = option_or (option_map (dated_at deadline) (task_in ts n)) (f n)

-- none of these tasks waits
abbrev pub AreNew : List Task → (ℕ → Option Dated) → Type 0
AreNew ts f = (n : ℕ) → IsTrue (is_none (f n) || is_none (task_in ts n))
