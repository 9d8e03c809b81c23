-- A finished tick at the moment of its End.
use Rattle.std.specs.Prelude.{ℕ, ◌≡◌, ◌+◌, true, nat_lt, if◌then◌else◌, filter, Some, None, List}
use Rattle.fol_model.specs.declared.regions.State.TheVariants.{Ticking}
use Rattle.fol_model.specs.Universe.{all_chunks}
use Rattle.fol_model.specs.Job.{Job}
use Rattle.fol_model.specs.World.{World, due}
use Rattle.fol_model.specs.End.{run_down, ticked, answers}
use Rattle.fol_model.specs.QueuedTask.{queued_in}
use Rattle.fol_chunks.specs.Contents.{flat_of, is_recorded, within}
use Rattle.fol_queues.specs.Waiting.{jobs_of}
use Rattle.fol_data.specs.declared.tick.Tick.{Tick}
use Rattle.fol_model.specs.declared.events.Event.{Event}
use Rattle.fol_model.specs.declared.events.Event.TheVariants as events
use Rattle.fol_model.specs.declared.tasks.Ran.{Ran}

-- the tick is that of its region in the world w: what it did is what its End says, and what it has in its hands is what its End
-- makes of the recorded chunks, and the tasks that were queued at its Begin
pub record AtEnd (w : World) (since : ℕ → ℕ) (tick : Tick) : Type 0 where
  pub ticks : w.grid.state tick.region ≡ Ticking
  pub chunks : tick.chunks ≡ filter (w.recorded tick.region) all_chunks
  pub listed : is_recorded tick.chunks ≡ w.recorded tick.region
  pub due : tick.due ≡ due w tick.region
  pub ran : (ticked w tick.region tick.log.ran).ran ≡ tick.log.ran
  pub wishes : (ticked w tick.region tick.log.ran).wishes ≡ tick.log.wishes
  pub contents : flat_of tick.body.chunks ≡ within (w.recorded tick.region) (run_down w tick.region tick.log.ran).flat
  pub counter : tick.body.tick ≡ w.tick tick.region
  pub owed : tick.body.owed ≡ w.owed tick.region
  pub queue : (n : ℕ) → jobs_of tick.body.queues (tick.body.tick + 1) n ≡ (if nat_lt n (since tick.region) then queued_in w.grid tick.region (w.jobs n) else None)
  pub there : (n : ℕ) (j : Job) → jobs_of tick.body.queues (tick.body.tick + 1) n ≡ Some j → w.recorded tick.region j.chunk ≡ true

-- the End of the tick in which these tasks ran
abbrev pub end_event : World → ℕ → ℕ → List Ran → Event
end_event w worker r ran = events.End worker r (w.tick r + 1) ran (answers (run_down w r ran) (ticked w r ran).wishes)
