use Rattle.fol_blocks.specs.Pages.{Found, Lacking}
use Rattle.fol_blocks.proofs.Weighing.{absent, order_replaced, puts_more, replaced}
use Rattle.fol_blocks.proofs.block_list.put.Goals as goal

pub returns-in-Ok-clause-order : goal.returns-in-Ok-clause-order
returns-in-Ok-clause-order c =
    let found : Found c.args.blocks.now.items c.args.block.at c.in-Ok.i = rw c.deref.ensures.value at c.in-Ok.ensures in
    order_replaced c.args.blocks.now.items c.in-Ok.i c.args.block c.requires.order found

pub returns-in-Ok-clause-put : goal.returns-in-Ok-clause-put
returns-in-Ok-clause-put c = λ t.
    let found : Found c.args.blocks.now.items c.args.block.at c.in-Ok.i = rw c.deref.ensures.value at c.in-Ok.ensures in
    replaced c.args.blocks.now.items c.in-Ok.i c.args.block c.requires.order found

pub returns-in-Err-clause-put : goal.returns-in-Err-clause-put
returns-in-Err-clause-put c = λ t.
    let lacking : Lacking c.args.blocks.now.items c.args.block.at c.in-Err.i = rw c.deref.ensures.value at c.in-Err.ensures in
    puts_more c.args.blocks.now.items c.insert_within.new.blocks.items c.args.block (absent c.args.blocks.now.items c.in-Err.i c.args.block.at lacking) (c.insert_within.ensures.put t)

pub returns-in-Err-clause-absent : goal.returns-in-Err-clause-absent
returns-in-Err-clause-absent c = λ t.
    let lacking : Lacking c.args.blocks.now.items c.args.block.at c.in-Err.i = rw c.deref.ensures.value at c.in-Err.ensures in
    absent c.args.blocks.now.items c.in-Err.i c.args.block.at lacking
