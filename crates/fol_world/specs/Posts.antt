-- A task more on a chunk that is held for it.
use Rattle.std.specs.Prelude.{ℕ, ◌≡◌, ◌+◌, ◌≤◌, ◌<◌, ◌^◌, Some, IsNone}
use Rattle.fol_model.specs.declared.places.ChunkPos.{ChunkPos}
use Rattle.fol_model.specs.declared.actions.Action.{Action}
use Rattle.fol_model.specs.ActionStep.{at_id}
use Rattle.fol_model.specs.Job.{queued}
use Rattle.fol_store.specs.Bag.{Stirred}
use Rattle.fol_store.specs.Stock.{bag_of, flat_of, jobs_of, next_of}
use Rattle.fol_world.specs.declared.tables.Tables.{Tables}
use Rattle.fol_world.specs.Agenda.{GrowsBy}

-- the next task can be queued
pub record CanQueue (t : Tables) (delay : ℕ) : Type 0 where
  pub spare : 1 ≤ t.store.spare
  pub fresh : IsNone (jobs_of t.store t.course.next_job)
  pub delay_low : 1 ≤ delay
  pub delay_high : delay ≤ 1000000
  pub few : t.course.next_job < 2 ^ 62

-- the next task was queued on c
pub record Queues (old new : Tables) (c : ChunkPos) (delay : ℕ) (action : Action) : Type 0 where
  pub grid : new.grid ≡ old.grid
  pub regions : new.regions ≡ old.regions
  pub flat : flat_of new.store ≡ flat_of old.store
  pub jobs : jobs_of new.store ≡ at_id (jobs_of old.store) old.course.next_job (Some (queued c delay action))
  pub bags : (r : ℕ) → Stirred c (bag_of old.store r) (bag_of new.store r)
  pub next : next_of new.store ≡ next_of old.store
  pub spare : old.store.spare ≤ new.store.spare + 1
  pub slots : old.store.slots ≤ new.store.slots
  pub tickets : new.tickets ≡ old.tickets
  pub agenda : new.agenda ≡ old.agenda
  pub course : new.course ≡ record old.course { next_job = old.course.next_job + 1 }

-- the memory that an added hold leaves, where so many regions were made
pub record LeavesRoom (old new : Tables) (made : ℕ) : Type 0 where
  pub regions : old.regions.spare ≤ new.regions.spare + 1
  pub slots : old.store.slots ≤ new.store.slots + made
  pub agenda : GrowsBy 1 old.agenda new.agenda
