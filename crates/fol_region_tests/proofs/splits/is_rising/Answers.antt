use Rattle.std.proofs.Common.{arith}
use Rattle.fol_split.proofs.Places.{rising-distinct}
use Rattle.fol_region_tests.proofs.splits.is_rising.Goals as goal

pub returns-clause-distinct : goal.returns-clause-distinct
returns-clause-distinct c = λ _. rising-distinct c.args.sections.now (λ k d l. c.loop-i.invariant.rising k d (omega arith))
