use Rattle.fol_tick_laws.proofs.Unprepared.{calm_closed}
use Rattle.fol_tick_laws.proofs.tests.Busy.close_phase.Goals as goal

pub invariant_of-self : goal.invariant_of-self
invariant_of-self g c = calm_closed c.self.inside.core c.close_phase.new.self 0 c.in-Ok.answer c.in-Ok.ensures.recorded c.self.invariant
