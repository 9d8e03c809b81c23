-- The tables of a core stand for the world after its history.
use Rattle.std.specs.Prelude.{ℕ, ℤ, ◌≡◌, ◌+◌, ◌≤◌, ◌^◌, false, List, length}
use Rattle.fol_model.specs.declared.places.ChunkPos.{ChunkPos}
use Rattle.fol_model.specs.declared.openings.Opening.{Opening}
use Rattle.fol_model.specs.declared.events.Entry.{Entry}
use Rattle.fol_model.specs.GridNumbers.{IsGrid}
use Rattle.fol_model.specs.World.{World}
use Rattle.fol_model.specs.Run.{Run, world}
use Rattle.fol_laws.specs.Growth.{answered}
use Rattle.fol_sections.specs.Places.{count_at}
use Rattle.fol_regions.specs.Table.{grid_state}
use Rattle.fol_store.specs.Stock.{bag_of}
use Rattle.fol_world.specs.declared.tables.Course.{Course}
use Rattle.fol_world.specs.declared.tables.Tables.{Tables}
use Rattle.fol_world.specs.Hands.{since}
use Rattle.fol_world.specs.Bags.{StoredIn}
use Rattle.fol_world.specs.Agenda.{IsAgenda}

-- the tickets of each chunk
abbrev pub AreTickets : List ((ℤ × ℤ) × ℕ) → (ChunkPos → ℕ) → Type 0
AreTickets entries tickets = (c : ChunkPos) → count_at entries c ≡ tickets c

pub record IsCourse (c : Course) (w : World) : Type 0 where
  pub next_job : c.next_job ≡ w.next_job
  pub in_phase : c.in_phase ≡ w.in_phase
  pub sum : c.sum ≡ w.sum
  pub stopped : c.stopped ≡ w.stopped
  pub finished : c.finished ≡ w.finished

-- the tables are those of the world w
pub record Fits (t : Tables) (w : World) (since : ℕ → ℕ) : Type 0 where
  pub grid : t.grid ≡ w.grid.grid
  pub regions : grid_state t.regions ≡ w.grid
  pub stored : StoredIn t.store w since
  pub tickets : AreTickets t.tickets.entries w.tickets
  pub agenda : IsAgenda t.agenda.items w.grid (bag_of t.store)
  pub course : IsCourse t.course w

-- `size` counts the entries and the answers that Ends list; a Stop may come on top of the most
pub record IsSize (c : Course) (h : List Entry) : Type 0 where
  pub size : c.size ≡ length h + answered h
  pub most : c.size ≤ 2 ^ 50 + 1
  pub before : c.stopped ≡ false → c.size ≤ 2 ^ 50

pub record Stands (o : Opening) (h : List Entry) (t : Tables) : Type 0 where
  pub grid : IsGrid o.grid
  pub run : Run o h
  pub fits : Fits t (world o h) (since o h)
  pub size : IsSize t.course h
