use Rattle.fol_seat_laws.proofs.LateTurns.{stays_in_tick}
use Rattle.fol_seat_laws.proofs.late.stays_in_tick.Goals as goal

pub returns : goal.returns
returns c = stays_in_tick
