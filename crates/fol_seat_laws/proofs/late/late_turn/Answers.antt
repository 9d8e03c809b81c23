use Rattle.fol_seat_laws.proofs.LateTicks.{late_turn}
use Rattle.fol_seat_laws.proofs.late.late_turn.Goals as goal

pub returns : goal.returns
returns c = late_turn
