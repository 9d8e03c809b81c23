use Rattle.fol_seat_laws.proofs.LateTurns.{whole_ticks_leave_none_open}
use Rattle.fol_seat_laws.proofs.late.whole_ticks_leave_none_open.Goals as goal

pub returns : goal.returns
returns c = whole_ticks_leave_none_open
