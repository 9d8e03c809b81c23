-- A tick comes back before anything of it ran.
use Rattle.std.specs.Prelude.{ℕ, ◌≡◌, ◌+◌, ◌≤◌, ◌<◌, Bool, false, true, ◌||◌, List, [], length, Option, vec_len, vec_capacity}
use Rattle.std.specs.Global.{Vec}
use Rattle.std.specs.Option.{option_map, option_or}
use Rattle.fol_model.specs.declared.openings.Opening.{Opening}
use Rattle.fol_model.specs.declared.events.Entry.{Entry}
use Rattle.fol_model.specs.declared.tasks.Task.{Task}
use Rattle.fol_model.specs.ActionStep.{at_id}
use Rattle.fol_model.specs.Job.{Job}
use Rattle.fol_model.specs.Run.{world}
use Rattle.fol_chunks.specs.Contents.{flat_of as contents_of, joined}
use Rattle.fol_queues.specs.Again.{queued_again}
use Rattle.fol_queues.specs.Waiting.{dated, job_of}
use Rattle.fol_data.specs.declared.tick.Tick.{Tick}
use Rattle.fol_regions.specs.Answers.{unbegun}
use Rattle.fol_regions.specs.Table.{grid_state}
use Rattle.fol_store.specs.Bag.{is_whole}
use Rattle.fol_store.specs.Stock.{bag_of, due_of, flat_of, jobs_of, next_of}
use Rattle.fol_world.specs.declared.tables.Tables.{Tables}
use Rattle.fol_core.specs.declared.machine.Room.{Room}
use Rattle.fol_core.specs.declared.machine.Room.TheVariants.{Begin, End}
use Rattle.fol_world.specs.Agenda.{GrowsBy, IsAgenda, IsTop}
use Rattle.fol_core.specs.Ahead.{StandsAhead}
use Rattle.fol_world.specs.Released.{IsReturned}
use Rattle.fol_core.specs.Ticks.{IsTick}

-- the tasks of a tick of which none ran, with the rests that they had before its Begin
abbrev pub rests_again : Tick → ℕ → Option Job
rests_again tick n = option_map (job_of tick.body.tick) (queued_again (tick.body.tick + 1) tick.due (dated tick.body.queues) n)

-- the tick was made for a prepared region, nothing of it ran, and there is room for its due tasks and for its region in the stack
pub record MayBeUndone (t : Tables) (tick : Tick) : Type 0 where
  pub opening : Opening
  pub history : List Entry
  pub marks : ℕ → Bool
  pub stands : StandsAhead opening history marks t
  pub marked : marks tick.region ≡ true
  pub of : IsTick (world opening history) tick.begun 0 tick.region tick
  pub spare : length tick.due ≤ tick.body.queues.spare
  pub room : vec_len t.agenda < vec_capacity t.agenda

-- what the tick has lies in the store again, and its region is Ready and owes the tick
pub record Undoes (old new : Tables) (tick : Tick) : Type 0 where
  pub regions : grid_state new.regions ≡ unbegun (grid_state old.regions) tick.region
  pub contents : flat_of new.store ≡ joined (flat_of old.store) (contents_of tick.body.chunks)
  pub tasks : jobs_of new.store ≡ λ n. option_or (jobs_of old.store n) (rests_again tick n)
  pub own : IsReturned (grid_state old.regions) tick.region tick.body.tick (tick.body.owed + 1) (bag_of new.store tick.region)
  pub bags : bag_of new.store ≡ at_id (bag_of old.store) tick.region (bag_of new.store tick.region)
  pub next : next_of new.store ≡ next_of old.store
  pub agenda : IsAgenda new.agenda.items (grid_state new.regions) (bag_of new.store)
  pub top : IsTop new.agenda.items tick.region
  pub stack : GrowsBy 1 old.agenda new.agenda
  pub grid : new.grid ≡ old.grid
  pub tickets : new.tickets ≡ old.tickets
  pub course : new.course ≡ old.course

-- the room for the next Begin of a region, and the list for its due tasks, once the tick of this one came back
pub record IsBeginAgain (t : Tables) (id of : ℕ) (list : Vec Task) : Type 0 where
  pub on : (t.course.finished || t.course.stopped) ≡ false
  pub own : of ≡ id
  pub empty : list.items ≡ []
  pub whole : is_whole (bag_of t.store id) ≡ true
  pub due : due_of t.store id ≤ vec_capacity list

-- what was taken is that room
abbrev pub IsRoomAgain : Tables → ℕ → Room → Type 0
IsRoomAgain t id (Begin own due) = IsBeginAgain t id own due
IsRoomAgain t id (End wishes accepts) = ⊥
