-- What the holds of a chunk are, and what follows for its tasks.
use Rattle.std.specs.Prelude.{ℕ, ◌≡◌, ◌+◌, ◌<◌, Some}
use Rattle.fol_model.specs.declared.places.ChunkPos.{ChunkPos}
use Rattle.fol_model.specs.Counting.{count_below}
use Rattle.fol_model.specs.Geometry.{section_of}
use Rattle.fol_model.specs.Job.{Job, is_on}
use Rattle.fol_model.specs.World.{World}
use Rattle.fol_laws.specs.Points.{AtEveryPoint}

-- the hold count of a chunk is its tickets plus its tasks that are queued or taken
abbrev pub HoldsAreTicketsAndTasks : World → Type 0
HoldsAreTicketsAndTasks w = (c : ChunkPos) → w.grid.holds c ≡ w.tickets c + count_below (λ n. is_on c (w.jobs n)) w.next_job

-- the section of each task's chunk has an owner
abbrev pub TasksAreOwned : World → Type 0
TasksAreOwned w = (n : ℕ) (j : Job) → w.jobs n ≡ Some j → 0 < w.grid.owner (section_of w.grid.grid j.chunk)

abbrev pub HoldsAreCounted : Type 0
HoldsAreCounted = AtEveryPoint (λ o. HoldsAreTicketsAndTasks)

abbrev pub EachTaskIsOwned : Type 0
EachTaskIsOwned = AtEveryPoint (λ o. TasksAreOwned)
