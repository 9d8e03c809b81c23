use Rattle.std.proofs.Common.{arith}
use Rattle.fol_blocks.proofs.Weighing.{order_inserted}
use Rattle.fol_blocks.proofs.block_list.insert_within.Goals as goal

pub returns-clause-order : goal.returns-clause-order
returns-clause-order c = rw c.in-Ok.ensures.items (order_inserted c.args.blocks.now.items c.args.i c.args.block c.requires.order (omega arith, c.requires.absent))
