use Rattle.fol_live.proofs.HeldTicks.{claimed_held}
use Rattle.fol_live_tests.proofs.seats.claim.Goals as goal

pub returns-clause-holds : goal.returns-clause-holds
returns-clause-holds g c = claimed_held c.args.seat.now c.try_begin.new.seat c.in-Got.tick.value c.in-Got.ensures
