use Rattle.fol_blocks.specs.Pages.{Lacking, blocks_on, place_of}
use Rattle.fol_blocks.proofs.PageSteps.{in_order, in_pages, in_puts, set_order, set_pages, set_puts}
use Rattle.fol_blocks.proofs.Weighing.{absent}
use Rattle.fol_blocks.proofs.block_pages.BlockPages.put.Goals as goal

pub invariant_of-self : goal.invariant_of-self
invariant_of-self c = set_pages c.self.inside.pages.items c.replace.new.pages.items c.self.inside.len (place_of c.self.inside.pages.items c.in-Ok.spot) c.self.invariant.0 c.self.invariant.1 c.replace.ensures.sizes c.args.block (rw c.deref.ensures.value at c.in-Ok.ensures.1) c.replace.ensures.blocks

pub returns-in-Ok-clause-order : goal.returns-in-Ok-clause-order
returns-in-Ok-clause-order c = set_order c.self.inside.pages.items c.replace.new.pages.items c.self.inside.len (place_of c.self.inside.pages.items c.in-Ok.spot) c.self.invariant.0 c.self.invariant.1 c.replace.ensures.sizes c.args.block (rw c.deref.ensures.value at c.in-Ok.ensures.1) c.replace.ensures.blocks

pub returns-in-Ok-clause-put : goal.returns-in-Ok-clause-put
returns-in-Ok-clause-put c = λ t. rw (← c.self.view_is) (set_puts c.self.inside.pages.items c.replace.new.pages.items c.self.inside.len (place_of c.self.inside.pages.items c.in-Ok.spot) c.self.invariant.0 c.self.invariant.1 c.replace.ensures.sizes c.args.block (rw c.deref.ensures.value at c.in-Ok.ensures.1) c.replace.ensures.blocks)

pub invariant_of-self-in-Ok-insert_at : goal.invariant_of-self-in-Ok-insert_at
invariant_of-self-in-Ok-insert_at c = in_pages c.self.inside.pages.items c.insert_at.new.pages.items c.self.inside.len (place_of c.self.inside.pages.items c.in-Err.spot) c.self.invariant.0 c.self.invariant.1 c.insert_at.ensures.sizes c.args.block (rw c.deref.ensures.value at c.in-Err.ensures.1) c.in-Ok-insert_at.ensures.ok

pub returns-in-Ok-insert_at-clause-order : goal.returns-in-Ok-insert_at-clause-order
returns-in-Ok-insert_at-clause-order c = in_order c.self.inside.pages.items c.insert_at.new.pages.items c.self.inside.len (place_of c.self.inside.pages.items c.in-Err.spot) c.self.invariant.0 c.self.invariant.1 c.insert_at.ensures.sizes c.args.block (rw c.deref.ensures.value at c.in-Err.ensures.1) c.in-Ok-insert_at.ensures.ok

pub returns-in-Ok-insert_at-clause-put : goal.returns-in-Ok-insert_at-clause-put
returns-in-Ok-insert_at-clause-put c = λ t. rw (← c.self.view_is) (in_puts c.self.inside.pages.items c.insert_at.new.pages.items c.self.inside.len (place_of c.self.inside.pages.items c.in-Err.spot) c.self.invariant.0 c.self.invariant.1 c.insert_at.ensures.sizes c.args.block (rw c.deref.ensures.value at c.in-Err.ensures.1) c.in-Ok-insert_at.ensures.ok)

pub returns-in-Err-insert_at-clause-absent : goal.returns-in-Err-insert_at-clause-absent
returns-in-Err-insert_at-clause-absent c = λ t.
    let none : Lacking (blocks_on c.self.inside.pages.items) c.args.block.at (place_of c.self.inside.pages.items c.in-Err.spot) = rw c.deref.ensures.value at c.in-Err.ensures.1 in
    rw (← c.self.view_is) (absent (blocks_on c.self.inside.pages.items) (place_of c.self.inside.pages.items c.in-Err.spot) c.args.block.at none)
