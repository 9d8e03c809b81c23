-- Tables that stand for the same.
use Rattle.std.specs.Prelude.{ℤ, ◌≡◌, ◌≤◌, vec_len, vec_capacity}
use Rattle.fol_sections.specs.Places.{number_at}
use Rattle.fol_regions.specs.Table.{grid_state}
use Rattle.fol_store.specs.Stock.{Stock, flat_of, jobs_of, bag_of, next_of}
use Rattle.fol_world.specs.declared.tables.Tables.{Tables}

pub record SameStock (old new : Stock) : Type 0 where
  pub flat : flat_of new ≡ flat_of old
  pub jobs : jobs_of new ≡ jobs_of old
  pub bags : bag_of new ≡ bag_of old
  pub next : next_of new ≡ next_of old

-- only how much memory there is may differ; the stack has no less
pub record SameTables (old new : Tables) : Type 0 where
  pub grid : new.grid ≡ old.grid
  pub regions : grid_state new.regions ≡ grid_state old.regions
  pub store : SameStock old.store new.store
  pub tickets : (x z : ℤ) → number_at new.tickets.entries x z ≡ number_at old.tickets.entries x z
  pub agenda : new.agenda.items ≡ old.agenda.items
  pub agenda_len : vec_len new.agenda ≡ vec_len old.agenda
  pub agenda_capacity : vec_capacity old.agenda ≤ vec_capacity new.agenda
  pub course : new.course ≡ old.course

-- the same blocks, entities and tasks
pub record SameThings (old new : Stock) : Type 0 where
  pub flat : flat_of new ≡ flat_of old
  pub jobs : jobs_of new ≡ jobs_of old
