-- The tables before any event.
use Rattle.std.specs.Prelude.{◌≡◌, false, [], None}
use Rattle.fol_model.specs.declared.openings.Opening.{Opening}
use Rattle.fol_model.specs.GridNumbers.{IsGrid}
use Rattle.fol_model.specs.GridState.{empty}
use Rattle.fol_model.specs.World.{start}
use Rattle.fol_regions.specs.Table.{grid_state}
use Rattle.fol_store.specs.Bag.{no_bag}
use Rattle.fol_store.specs.Stock.{bag_of, flat_of, jobs_of, next_of}
use Rattle.fol_world.specs.declared.tables.Course.{Course}
use Rattle.fol_world.specs.declared.tables.Tables.{Tables}

abbrev pub untouched : Course
untouched = record { next_job = 1; in_phase = false; sum = 0; stopped = false; finished = false; size = 0 }

-- no region, no task and no ticket, and the blocks and entities of the opening
pub record AreFirst (o : Opening) (t : Tables) : Type 0 where
  pub limits : IsGrid o.grid
  pub grid : t.grid ≡ o.grid
  pub regions : grid_state t.regions ≡ empty o.grid
  pub flat : flat_of t.store ≡ (start o).flat
  pub jobs : jobs_of t.store ≡ λ n. None
  pub bags : bag_of t.store ≡ λ id. no_bag
  pub next : next_of t.store ≡ 1
  pub tickets : t.tickets.entries ≡ []
  pub agenda : t.agenda.items ≡ []
  pub course : t.course ≡ untouched
