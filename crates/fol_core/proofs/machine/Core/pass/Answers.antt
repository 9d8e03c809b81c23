use Rattle.std.proofs.Common.{arith}
use Rattle.fol_core.proofs.QuietRuns.{passes_more, passes_none, passes_still}
use Rattle.fol_core.proofs.machine.Core.pass.Goals as goal

pub rounds-init : goal.rounds-init
rounds-init c =
    let stays = c.settle_next.ensures in record {
      few = omega arith;
      passed = passes_still _ _ _ _ _ _ (passes_none c.args.self.now c.args.worker c.args.id) stays;
      counter = rw (stays.opening, stays.history) (omega arith);
    }

pub rounds-preserved : goal.rounds-preserved
rounds-preserved c =
    let i = c.rounds.invariant in
    let did = c.pass_some-more.ensures in record {
      few = (let before = c.rounds-test.true in let few = did.few in omega (arith, before, few));
      passed = passes_more _ _ _ _ _ _ _ i.passed i.counter did.passed;
      counter = (let before = i.counter in let more = did.counter in omega (arith, before, more));
    }

pub returns-then-more-eq0-clause-passed : goal.returns-then-more-eq0-clause-passed
returns-then-more-eq0-clause-passed c = passes_more _ _ _ _ _ _ _ c.rounds.invariant.passed c.rounds.invariant.counter c.pass_some-more.ensures.passed
