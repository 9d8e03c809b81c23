use Rattle.std.proofs.Common.{arith}
use Rattle.fol_world.proofs.holds.unloaded.Goals as goal

pub lower-requires-clause-no_task : goal.lower-requires-clause-no_task
lower-requires-clause-no_task c = c.requires.no_task (omega (arith, c.drop_hold.ensures.before, c.if-drop_hold-eq0.false))
