use Rattle.fol_pool.proofs.Going.{stop_holds}
use Rattle.fol_pool.proofs.tick.give_up.Goals as goal

pub returns-clause-works : goal.returns-clause-works
returns-clause-works g c = stop_holds c.args.seat.now c.stop.new.seat c.requires.stuck c.stop.ensures
