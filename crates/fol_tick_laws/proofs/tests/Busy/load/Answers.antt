use Rattle.fol_tick_laws.proofs.OpenTicks.{open_loaded}
use Rattle.fol_tick_laws.proofs.Unprepared.{calm_loaded}
use Rattle.fol_tick_laws.proofs.tests.Busy.load.Goals as goal

pub returns : goal.returns
returns g c =
    rw (← c.self.view_is)
    (open_loaded c.self.inside.core c.load.new.self c.args.caller c.args.chunk c.in-Ok.answer c.in-Ok.ensures.recorded)

pub invariant_of-self : goal.invariant_of-self
invariant_of-self g c = calm_loaded c.self.inside.core c.load.new.self c.args.caller c.args.chunk c.in-Ok.answer c.in-Ok.ensures.recorded c.self.invariant
