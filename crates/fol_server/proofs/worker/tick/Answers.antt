use Rattle.fol_live.proofs.FreeSeats.{free_still}
use Rattle.fol_live.proofs.HeldTicks.{claimed_held}
use Rattle.fol_server.proofs.worker.tick.Goals as goal

pub run_and_end-requires-clause-holds : goal.run_and_end-requires-clause-holds
run_and_end-requires-clause-holds g c = claimed_held c.args.worker.now.seat c.try_begin.new.seat c.in-Got.tick.value c.in-Got.ensures

pub returns-in-Idle-clause-free : goal.returns-in-Idle-clause-free
returns-in-Idle-clause-free g c = free_still c.args.worker.now.seat c.try_begin.new.seat c.requires.free c.in-Idle.ensures
