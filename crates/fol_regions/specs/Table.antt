-- What contracts see of a region table: the state of the grid, the last change, and how many events there is memory for.
use Rattle.std.specs.Prelude.{ℕ}
use Rattle.fol_model.specs.GridState.{GridState}
use Rattle.fol_sections.specs.Table.{holds_of}
use Rattle.fol_sections.specs.Table as sections
use Rattle.fol_region_tables.specs.Book.{Book, owner_of, state_of, waits_of}
use Rattle.fol_regions.specs.Changes.{Changes}

pub record Table : Type 0 where
  -- the holds and the present sections
  pub sections : sections.Table
  -- the regions
  pub book : Book
  -- what the last `add` or `release` changed
  pub last : Changes
  -- how many calls of `add` and `release` there is memory for
  pub spare : ℕ

-- the state of the grid that the table stands for
unfoldable pub grid_state : Table → GridState
grid_state t = record {
  grid = t.sections.grid;
  holds = holds_of t.sections;
  owner = owner_of t.book;
  state = state_of t.book;
  waits = waits_of t.book;
  next = t.book.next;
}
