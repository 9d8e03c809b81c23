use Rattle.fol_pool.proofs.Issuing.{issued_run}
use Rattle.fol_pool.proofs.commands.open_phase.Goals as goal

pub returns-in-Ok-Opened-clause-issued : goal.returns-in-Ok-Opened-clause-issued
returns-in-Ok-Opened-clause-issued g c = issued_run c.args.caller.now c.open_phase.new.seat c.args.ticks (rw c.in-Ok-Opened.field-0-is at c.in-Ok-Opened.ensures)
