use Rattle.fol_tick_laws.proofs.Unprepared.{still_none}
use Rattle.fol_tick_laws.proofs.early.makes_ready.Goals as goal

pub returns-clause-none : goal.returns-clause-none
returns-clause-none g c = still_none c.args.core.now c.reserve.new.self c.in-Ok.ensures.same.prepared c.requires.none
