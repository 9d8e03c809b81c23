use Rattle.fol_blocks.specs.Kept.{blocks_of}
use Rattle.fol_blocks.proofs.Weighing.{once_distinct}
use Rattle.fol_chunks.proofs.held.Held.add_blocks_to.Goals as goal

pub returns-clause-differ : goal.returns-clause-differ
returns-clause-differ c = rw (← c.self.view_is) (once_distinct (blocks_of c.self.inside.blocks) c.self.invariant.laid.once)
