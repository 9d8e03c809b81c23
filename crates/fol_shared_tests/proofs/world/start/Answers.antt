use Rattle.fol_live.proofs.FreeSeats.{are_free}
use Rattle.fol_shared_tests.proofs.world.start.Goals as goal

pub returns-clause-free : goal.returns-clause-free
returns-clause-free g c = are_free _ _ _ c.expect.result.seats.items (rw c.expect.ensures at c.start.ensures.seats)
