use Rattle.fol_blocks.specs.Pages.{Lacking, blocks_on, place_of}
use Rattle.fol_blocks.proofs.PageSteps.{out_clears, out_order, out_pages}
use Rattle.fol_blocks.proofs.Weighing.{absent, clears_absent}
use Rattle.fol_blocks.proofs.block_pages.BlockPages.clear.Goals as goal

pub invariant_of-self : goal.invariant_of-self
invariant_of-self c = out_pages c.self.inside.pages.items c.take_out.new.pages.items c.self.inside.len (place_of c.self.inside.pages.items c.in-Ok.spot) c.self.invariant.0 c.self.invariant.1 c.take_out.ensures.sizes c.args.at (rw c.deref.ensures.value at c.in-Ok.ensures.1) c.take_out.ensures.blocks

pub returns-in-Ok-clause-order : goal.returns-in-Ok-clause-order
returns-in-Ok-clause-order c = out_order c.self.inside.pages.items c.take_out.new.pages.items c.self.inside.len (place_of c.self.inside.pages.items c.in-Ok.spot) c.self.invariant.0 c.self.invariant.1 c.take_out.ensures.sizes c.args.at (rw c.deref.ensures.value at c.in-Ok.ensures.1) c.take_out.ensures.blocks

pub returns-in-Ok-clause-cleared : goal.returns-in-Ok-clause-cleared
returns-in-Ok-clause-cleared c = rw (← c.self.view_is) (out_clears c.self.inside.pages.items c.take_out.new.pages.items c.self.inside.len (place_of c.self.inside.pages.items c.in-Ok.spot) c.self.invariant.0 c.self.invariant.1 c.take_out.ensures.sizes c.args.at (rw c.deref.ensures.value at c.in-Ok.ensures.1) c.take_out.ensures.blocks)

pub returns-in-Err-clause-cleared : goal.returns-in-Err-clause-cleared
returns-in-Err-clause-cleared c =
    let lacking : Lacking (blocks_on c.self.inside.pages.items) c.args.at (place_of c.self.inside.pages.items c.in-Err.field-0) = rw c.deref.ensures.value at c.in-Err.ensures.1 in
    rw (← c.self.view_is) (clears_absent (blocks_on c.self.inside.pages.items) c.args.at (absent (blocks_on c.self.inside.pages.items) (place_of c.self.inside.pages.items c.in-Err.field-0) c.args.at lacking))
