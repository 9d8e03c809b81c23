-- A finished tick can end.
use Rattle.std.specs.Prelude.{◌+◌, ◌≤◌, ◌^◌, List, length}
use Rattle.fol_model.specs.declared.openings.Opening.{Opening}
use Rattle.fol_model.specs.declared.events.Entry.{Entry}
use Rattle.fol_model.specs.Run.{world}
use Rattle.fol_data.specs.declared.tick.Tick.{Tick}
use Rattle.fol_world.specs.declared.tables.Tables.{Tables}
use Rattle.fol_world.specs.Stands.{Stands}
use Rattle.fol_world.specs.AtEnd.{AtEnd}
use Rattle.fol_world.specs.Hands.{since}
use Rattle.fol_world.specs.Underway.{HasRoomFor}

-- the tick is that of its End in a world for which the tables stand, and there is memory for its End
pub record MayEnd (t : Tables) (tick : Tick) : Type 0 where
  pub opening : Opening
  pub history : List Entry
  pub stands : Stands opening history t
  pub at : AtEnd (world opening history) (since opening history) tick
  pub size : t.course.size + (1 + length tick.log.wishes) ≤ 2 ^ 50
  pub memory : HasRoomFor t tick.body.chunks (length tick.log.wishes)
