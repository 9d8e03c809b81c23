use Rattle.std.proofs.Common.{arith}
use Rattle.fol_blocks.specs.Pages.{Found, blocks_on, place_of}
use Rattle.fol_blocks.proofs.PageSteps.{in_order, in_pages}
use Rattle.fol_blocks.proofs.Weighing.{counted_here}
use Rattle.fol_blocks.proofs.block_pages.BlockPages.add.Goals as goal

pub unreachable-requires : goal.unreachable-requires
unreachable-requires c =
    let found : Found (blocks_on c.self.inside.pages.items) c.args.block.at (place_of c.self.inside.pages.items c.in-Ok.field-0) = rw c.deref.ensures.value at c.in-Ok.ensures.1 in
    let none = rw (← c.self.view_is) at c.requires.absent in
    omega (arith, none, counted_here (blocks_on c.self.inside.pages.items) (place_of c.self.inside.pages.items c.in-Ok.field-0) c.args.block.at c.args.block c.self.invariant.0.order found)

pub invariant_of-self : goal.invariant_of-self
invariant_of-self c = in_pages c.self.inside.pages.items c.insert_at.new.pages.items c.self.inside.len (place_of c.self.inside.pages.items c.in-Err.spot) c.self.invariant.0 c.self.invariant.1 c.insert_at.ensures.sizes c.args.block (rw c.deref.ensures.value at c.in-Err.ensures.1) c.in-Ok-insert_at.ensures.ok

pub returns-in-Ok-insert_at-clause-order : goal.returns-in-Ok-insert_at-clause-order
returns-in-Ok-insert_at-clause-order c = in_order c.self.inside.pages.items c.insert_at.new.pages.items c.self.inside.len (place_of c.self.inside.pages.items c.in-Err.spot) c.self.invariant.0 c.self.invariant.1 c.insert_at.ensures.sizes c.args.block (rw c.deref.ensures.value at c.in-Err.ensures.1) c.in-Ok-insert_at.ensures.ok
