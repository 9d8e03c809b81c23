-- Seats that hold no tick.
use Rattle.std.specs.Prelude.{◌≡◌, None}
use Rattle.fol_live.specs.Seat.{LiveId, Shown, held}

-- a seat of this world that holds no tick
abbrev pub IsFree : LiveId → Shown → Type 0
IsFree lock seat = (seat.lock ≡ lock) × (held seat ≡ None)
