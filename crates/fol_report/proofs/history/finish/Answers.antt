use Rattle.std.proofs.Common.{arith}
use Rattle.fol_report.proofs.history.finish.Goals as goal

pub returns-then-not-has_room-clause-grows : goal.returns-then-not-has_room-clause-grows
returns-then-not-has_room-clause-grows c room = omega (arith, room, c.if-not-has_room.ensures.none)
