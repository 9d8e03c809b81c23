-- What holds of a world, whatever its seats did.
use Rattle.std.specs.Prelude.{ℕ, List}
use Rattle.std.specs.List.{AllByRecursion}
use Rattle.fol_model.specs.GridNumbers.{IsGrid}
use Rattle.fol_model.specs.Run.{Run}
use Rattle.fol_model.specs.declared.openings.Opening.{Opening}
use Rattle.fol_model.specs.declared.events.Entry.{Entry}
use Rattle.fol_seat_laws.specs.Signed.{IsSigned}
use Rattle.fol_offers.specs.InTurn.{TakeTurns}
use Rattle.fol_live.specs.Shown.{Shown}

-- the history is a run; what names a seat is recorded by it; and each Begin is of one of w workers, who had no tick open
pub record Keeps (w : ℕ) (o : Opening) (h : List Entry) : Type 0 where
  pub grid : IsGrid o.grid
  pub run : Run o h
  pub signed : AllByRecursion IsSigned h
  pub turns : TakeTurns w h

abbrev pub IsKept : Shown → Type 0
IsKept s = Keeps s.workers s.opening s.history
