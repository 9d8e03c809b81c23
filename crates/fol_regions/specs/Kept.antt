-- What a region table keeps.
use Rattle.std.specs.Prelude.{◌≡◌, ℕ, ◌*◌, ◌≤◌}
use Rattle.fol_model.specs.declared.grids.Grid.{Grid}
use Rattle.fol_model.specs.GridNumbers.{IsGrid}
use Rattle.fol_model.specs.Rules.{Rules}
use Rattle.fol_sections.specs.Table as sections
use Rattle.fol_region_tables.specs.Book.{Book, HasRoomFor}
use Rattle.fol_regions.specs.Released.{IsPresence, grid_of}

-- the rules of regions, the sections with an owner, and the memory for so many events
pub record IsKept (grid : Grid) (kept : sections.Table) (b : Book) (events : ℕ) : Type 0 where
  pub same : grid ≡ kept.grid
  pub numbers : IsGrid kept.grid
  pub rules : Rules (grid_of kept b)
  pub presence : IsPresence kept b
  pub spare : events ≤ kept.spare
  pub room : HasRoomFor b (34 * events) (625 * events)
