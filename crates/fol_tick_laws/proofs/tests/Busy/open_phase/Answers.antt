use Rattle.fol_tick_laws.proofs.OpenTicks.{open_phased}
use Rattle.fol_tick_laws.proofs.Unprepared.{calm_phased}
use Rattle.fol_tick_laws.proofs.tests.Busy.open_phase.Goals as goal

pub returns : goal.returns
returns g c =
    rw (← c.self.view_is)
    (open_phased c.self.inside.core c.open_phase.new.self 0 1 c.in-Ok.answer c.in-Ok.ensures.recorded)

pub invariant_of-self : goal.invariant_of-self
invariant_of-self g c = calm_phased c.self.inside.core c.open_phase.new.self 0 1 c.in-Ok.answer c.in-Ok.ensures.recorded c.self.invariant
