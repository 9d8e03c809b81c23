use Rattle.std.proofs.Common.{arith}
use Rattle.fol_blocks.specs.Kept.{blocks_of}
use Rattle.fol_blocks.proofs.Wholes.{sets_clear, sets_put}
use Rattle.fol_blocks.proofs.blocks.Blocks.change.Goals as goal

pub returns-then-block-eq0-clause-set : goal.returns-then-block-eq0-clause-set
returns-then-block-eq0-clause-set c = sets_clear (blocks_of c.args.self.now) (blocks_of c.clear.new.self) c.args.block c.clear.ensures.cleared (omega arith)

pub returns-else-block-eq0-clause-set : goal.returns-else-block-eq0-clause-set
returns-else-block-eq0-clause-set c = sets_put (blocks_of c.args.self.now) (blocks_of c.put.new.self) c.args.block c.put.ensures.put (omega arith)
