use Rattle.std.proofs.Common.{sym}
use Rattle.fol_blocks.proofs.Weighing.{absent, number_here, number_none}
use Rattle.fol_blocks.proofs.block_list.number_at.Goals as goal

pub returns-in-Ok : goal.returns-in-Ok
returns-in-Ok c = sym (number_here c.args.blocks.now c.in-Ok.i c.args.at _ c.requires c.in-Ok.ensures)

pub returns-in-Err : goal.returns-in-Err
returns-in-Err c = number_none c.args.blocks.now c.args.at (absent c.args.blocks.now c.in-Err.field-0 c.args.at c.in-Err.ensures)
