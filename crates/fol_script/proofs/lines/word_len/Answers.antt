use Rattle.std.proofs.Common.{arith}
use Rattle.fol_script.proofs.Cuts.{up_to_end}
use Rattle.fol_script.proofs.lines.word_len.Goals as goal

pub returns-else-text-n-ne32-clause-place : goal.returns-else-text-n-ne32-clause-place
returns-else-text-n-ne32-clause-place c = up_to_end c.args.text.now c.loop-n.n 32 c.loop-n.invariant.within c.loop-n.invariant.below (λ _. c.if-text-n-ne32.false)

pub returns-after-loop-n-clause-place : goal.returns-after-loop-n-clause-place
returns-after-loop-n-clause-place c = up_to_end c.args.text.now c.loop-n.n 32 c.loop-n.invariant.within c.loop-n.invariant.below (λ lt. absurd (omega (arith, lt, c.loop-n-test.false)))
