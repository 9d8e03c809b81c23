use Rattle.std.proofs.Common.{◌∙◌}
use Rattle.fol_core.proofs.Ahead.{over_is}
use Rattle.fol_core.proofs.machine.Core.is_over.Goals as goal

pub returns : goal.returns
returns c = rw (← c.self.view_is) (c.is_over.ensures ∙ over_is _ _ _ _ c.self.invariant.0)
