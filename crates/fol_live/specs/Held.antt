-- A seat that holds a tick.
use Rattle.std.specs.Prelude.{◌≡◌, List, Some}
use Rattle.fol_data.specs.declared.tick.Tick.{Tick}
use Rattle.fol_tick.specs.Calls.{HostCall}
use Rattle.fol_tick.specs.Runs.{Finishes, MayRun}
use Rattle.fol_core.specs.Ticks.{SameTick}
use Rattle.fol_offers.specs.Fit.{IsFitTick}
use Rattle.fol_live.specs.Calls.{Claims}
use Rattle.fol_live.specs.Goes.{Hosts}
use Rattle.fol_live.specs.Seat.{Shown, held}

-- it claimed this tick, of which nothing has run, and did not give it back
pub record HoldsTick (s : Shown) (tick : Tick) : Type 0 where
  pub offered : Tick
  pub holds : held s ≡ Some offered
  pub fit : IsFitTick offered
  pub is : tick ≡ record offered { worker = s.number }

-- it claimed this tick, which has run, and may give it back; what room the tick has for more is no part of it
pub record HoldsRun (s : Shown) (tick : Tick) : Type 0 where
  pub offered : Tick
  pub holds : held s ≡ Some offered
  pub calls : List HostCall
  pub finished : Tick
  pub ran : Finishes (record offered { worker = s.number }) finished calls
  pub same : SameTick finished tick

-- ---- laws

-- a seat that claimed a tick holds it
abbrev pub ClaimedTickIsHeld : Type 0
ClaimedTickIsHeld = (old new : Shown) (tick : Tick) → Claims old new tick → HoldsTick new tick

-- and may run it
abbrev pub HeldTickMayRun : Type 0
HeldTickMayRun = (s : Shown) (tick : Tick) → HoldsTick s tick → MayRun tick

-- and when it has run, with the seat as its host and whatever others recorded meanwhile, may release it
abbrev pub RunTickMayBeReleased : Type 0
RunTickMayBeReleased = (old new : Shown) (tick finished : Tick) (calls : List HostCall) → HoldsTick old tick → Finishes tick finished calls → Hosts old calls new → HoldsRun new finished
