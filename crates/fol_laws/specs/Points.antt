-- What holds at every point of every history.
use Rattle.std.specs.Prelude.{List, ◌++◌}
use Rattle.fol_model.specs.declared.events.Entry.{Entry}
use Rattle.fol_model.specs.declared.openings.Opening.{Opening}
use Rattle.fol_model.specs.GridNumbers.{IsGrid}
use Rattle.fol_model.specs.World.{World}
use Rattle.fol_model.specs.Run.{Run, world}

-- P holds of an opening and of the world after each prefix of a run of it
abbrev pub AtEveryPoint : (Opening → World → Type 0) → Type 0
AtEveryPoint P = (o : Opening) (es rest : List Entry) → IsGrid o.grid → Run o (es ++ rest) → P o (world o es)
