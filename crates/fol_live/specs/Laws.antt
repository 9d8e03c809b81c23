-- What follows from the definitions.
use Rattle.std.specs.Prelude.{ℕ}
use Rattle.fol_tick_laws.specs.OpenTicks.{KeepsOpen}
use Rattle.fol_live.specs.Shown.{Shown, meaning_of}
use Rattle.fol_live.specs.Turns.{Learns}

-- Begins that are recorded late leave each open tick open
abbrev pub LateBeginsKeepTicksOpen : Type 0
LateBeginsKeepTicksOpen = (old new : Shown) (by : ℕ) → Learns old new by → KeepsOpen (meaning_of old) (meaning_of new)
