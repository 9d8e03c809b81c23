use Rattle.std.proofs.Common.{map}
use Rattle.fol_model.specs.Texts.{command_row}
use Rattle.fol_script.proofs.InOrder.{lead_to_end}
use Rattle.fol_script.proofs.gathered.gather.Goals as goal

pub returns-clause-order : goal.returns-clause-order
returns-clause-order c = lead_to_end (map command_row c.loop-share.commands.items) c.loop-share.before c.if-before.false c.loop-share.invariant.leads
