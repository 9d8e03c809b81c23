use Rattle.std.proofs.Common.{◌∙◌, arith}
use Rattle.fol_blocks.proofs.blocks.Blocks.settle.Goals as goal

pub loop-self-preserved : goal.loop-self-preserved
loop-self-preserved c = record {
  kept = c.settle_last.ensures.kept;
  same = λ f. c.settle_last.ensures.same f ∙ c.loop-self.invariant.same f;
  room = omega arith;
  len = omega arith;
}
