use Rattle.fol_pool.proofs.Going.{asked_rests}
use Rattle.fol_pool.proofs.work.is_over.Goals as goal

pub returns-then-asks-clause-rests : goal.returns-then-asks-clause-rests
returns-then-asks-clause-rests g c = asked_rests c.args.seat.now c.ended.new.seat c.ended.result c.requires.rests c.ended.ensures
