use Rattle.fol_blocks.specs.Pages.{Found, Lacking}
use Rattle.fol_blocks.proofs.Weighing.{absent, clears_absent, order_removed, removed}
use Rattle.fol_blocks.proofs.block_list.clear.Goals as goal

pub returns-in-Ok-clause-order : goal.returns-in-Ok-clause-order
returns-in-Ok-clause-order c = rw c.remove.ensures.items (order_removed c.args.blocks.now.items c.in-Ok.i c.requires.order)

pub returns-in-Ok-clause-cleared : goal.returns-in-Ok-clause-cleared
returns-in-Ok-clause-cleared c =
    let found : Found c.args.blocks.now.items c.args.at c.in-Ok.i = rw c.deref.ensures.value at c.in-Ok.ensures in
    rw c.remove.ensures.items (removed c.args.blocks.now.items c.in-Ok.i c.args.at c.remove.result c.requires.order found)

pub returns-in-Err-clause-cleared : goal.returns-in-Err-clause-cleared
returns-in-Err-clause-cleared c =
    let lacking : Lacking c.args.blocks.now.items c.args.at c.in-Err.field-0 = rw c.deref.ensures.value at c.in-Err.ensures in
    clears_absent c.args.blocks.now.items c.args.at (absent c.args.blocks.now.items c.in-Err.field-0 c.args.at lacking)
