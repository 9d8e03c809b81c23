use Rattle.fol_core.proofs.Ahead.{sum_is}
use Rattle.fol_core.proofs.machine.Core.phase_ticks.Goals as goal

pub returns : goal.returns
returns c = rw (← c.self.view_is) (sum_is _ _ _ _ c.self.invariant.0)
