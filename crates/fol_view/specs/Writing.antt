-- What contracts see of the writer and of the view.
use Rattle.std.specs.Prelude.{ℕ, List, All, Option, ◌≡◌}
use Rattle.logbook.specs.Pages.{Book, Named}
use Rattle.fol_live.specs.Seat.{Shown}
use Rattle.fol_view.specs.Publications.{IsLastFront, IsPublication, Listed, Publication, head_of}
use Rattle.fol_view.specs.Boards.{Showing}
use Rattle.fol_view.specs.Looks.{HasBook}

pub record Writing : Type 0 where
  -- which view
  pub book : Book
  pub seat : Shown
  -- all publications so far
  pub list : List Publication

abbrev pub writing : Shown → Listed → Writing
writing seat all = record { book = all.book; seat = seat; list = all.list }

pub record Writes (seat : Shown) (all : Listed) (front : ℕ) (head : Named) (shown : Option Showing) : Type 0 where
  pub head_is : head ≡ head_of all.book
  pub shows : HasBook shown all.book
  pub each : All (IsPublication seat.opening seat.seen) all.list
  pub front_is : IsLastFront all.list front

pub record Viewing : Type 0 where
  -- which view
  pub book : Book
  -- how many readers it has
  pub readers : ℕ

abbrev pub viewing : Listed → ℕ → Viewing
viewing all readers = record { book = all.book; readers = readers }
