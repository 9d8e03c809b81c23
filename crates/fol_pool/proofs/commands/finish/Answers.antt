use Rattle.fol_pool.proofs.Issuing.{finished_now}
use Rattle.fol_pool.proofs.commands.finish.Goals as goal

pub returns-in-Ok-Finished-clause-finished : goal.returns-in-Ok-Finished-clause-finished
returns-in-Ok-Finished-clause-finished g c = finished_now c.args.caller.now c.finish.new.seat c.requires.zero (rw c.in-Ok-Finished.field-0-is at c.in-Ok-Finished.ensures)
