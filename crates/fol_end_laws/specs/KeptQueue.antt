-- The queued tasks of a region that ticks.
use Rattle.std.specs.Prelude.{ℕ, ◌≡◌, ◌<◌}
use Rattle.fol_model.specs.QueuedTask.{queued_in}
use Rattle.fol_model.specs.World.{World}
use Rattle.fol_laws.specs.Ownership.{WhileTicking}

-- the tasks that have their number in w and are queued on r's sections are the same in w and in v
pub record SameQueue (r : ℕ) (w v : World) : Type 0 where
  pub jobs : (n : ℕ) → n < w.next_job → queued_in v.grid r (v.jobs n) ≡ queued_in w.grid r (w.jobs n)

abbrev pub QueueIsKept : Type 0
QueueIsKept = WhileTicking SameQueue
