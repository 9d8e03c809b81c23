use Rattle.fol_blocks.specs.Pages.{Found, Lacking}
use Rattle.fol_blocks.proofs.Weighing.{absent, order_replaced, replaced}
use Rattle.fol_blocks.proofs.block_list.replace.Goals as goal

pub returns-in-Ok-clause-order : goal.returns-in-Ok-clause-order
returns-in-Ok-clause-order c =
    let found : Found c.args.blocks.now.items c.args.block.at c.in-Ok.i = rw c.deref.ensures.value at c.in-Ok.ensures in
    order_replaced c.args.blocks.now.items c.in-Ok.i c.args.block c.requires found

pub returns-in-Ok-clause-put : goal.returns-in-Ok-clause-put
returns-in-Ok-clause-put c = λ t.
    let found : Found c.args.blocks.now.items c.args.block.at c.in-Ok.i = rw c.deref.ensures.value at c.in-Ok.ensures in
    replaced c.args.blocks.now.items c.in-Ok.i c.args.block c.requires found

pub returns-in-Err-clause-absent : goal.returns-in-Err-clause-absent
returns-in-Err-clause-absent c = λ t.
    let lacking : Lacking c.args.blocks.now.items c.args.block.at c.in-Err.field-0 = rw c.deref.ensures.value at c.in-Err.ensures in
    absent c.args.blocks.now.items c.in-Err.field-0 c.args.block.at lacking
