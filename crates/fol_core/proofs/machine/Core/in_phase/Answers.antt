use Rattle.fol_core.proofs.Ahead.{phase_is}
use Rattle.fol_core.proofs.machine.Core.in_phase.Goals as goal

pub returns : goal.returns
returns c = rw (← c.self.view_is) (phase_is _ _ _ _ c.self.invariant.0)
