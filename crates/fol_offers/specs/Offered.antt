-- What contracts see of what lies in a slot: a tick or nothing, as if it lay there and not behind a pointer.
use Rattle.std.specs.Prelude.{Option, Some, None}
use Rattle.std.specs.Global.{Box}
use Rattle.fol_data.specs.declared.tick.Tick.{Tick}

-- a tick, or nothing
pub record Offered : Type 0 where
  pub tick : Option Tick

-- a body with no tick
abbrev pub nothing : Offered
nothing = record { tick = None }

-- a body with this tick
abbrev pub of_tick : Tick → Offered
of_tick t = record { tick = Some t }

-- the body with what lies behind the pointer, if there is one
abbrev pub unboxed : Option (Box Tick) → Offered
unboxed None = nothing
unboxed (Some b) = of_tick b.value
