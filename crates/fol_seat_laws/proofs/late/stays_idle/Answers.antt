use Rattle.fol_seat_laws.proofs.LateTurns.{stays_idle}
use Rattle.fol_seat_laws.proofs.late.stays_idle.Goals as goal

pub returns : goal.returns
returns c = stays_idle
