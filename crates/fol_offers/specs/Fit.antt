-- What may be offered.
use Rattle.std.specs.Prelude.{ℕ, List, length, IsSomeAnd}
use Rattle.fol_model.specs.declared.openings.Opening.{Opening}
use Rattle.fol_model.specs.declared.events.Entry.{Entry}
use Rattle.fol_model.specs.declared.events.Event.TheVariants.{Begin}
use Rattle.fol_model.specs.GridNumbers.{IsGrid}
use Rattle.fol_model.specs.Run.{Allowed, Run, world}
use Rattle.fol_data.specs.declared.tick.Tick.{Tick}
use Rattle.fol_tick.specs.Runs.{MayRun}
use Rattle.fol_core.specs.Ticks.{IsTick}
use Rattle.fol_offers.specs.Offered.{Offered}

-- the tick was made in a world that a run leads to, where a Begin of its region is allowed; it is that of this Begin, but for its worker
pub record IsFitTick (tick : Tick) : Type 0 where
  pub opening : Opening
  pub history : List Entry
  pub grid : IsGrid opening.grid
  pub run : Run opening history
  pub allowed : Allowed (world opening history) (Begin 0 tick.region)
  pub is : IsTick (world opening history) (length history) 0 tick.region tick

-- there is such a tick
abbrev pub IsFit : Offered → Type 0
IsFit o = IsSomeAnd o.tick IsFitTick

-- a tick that was offered may be run by any worker
abbrev pub OfferedTickMayRun : Type 0
OfferedTickMayRun = (tick : Tick) (k : ℕ) → IsFitTick tick → MayRun (record tick { worker = k })
