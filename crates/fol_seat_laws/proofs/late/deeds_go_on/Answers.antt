use Rattle.fol_seat_laws.proofs.LateTurns.{deeds_go_on}
use Rattle.fol_seat_laws.proofs.late.deeds_go_on.Goals as goal

pub returns : goal.returns
returns c = deeds_go_on
