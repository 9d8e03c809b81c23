use Rattle.std.specs.Ordering.{nat_cmp}
use Rattle.std.specs.BTreeMap.{get}
use Rattle.fol_follow.proofs.Counting.{known_all, known_next}
use Rattle.fol_follow.proofs.asks.Asks.new.Goals as goal

pub loop-e-preserved : goal.loop-e-preserved
loop-e-preserved c = known_next (get nat_cmp c.loop-e.counts) (get nat_cmp c.insert.new.self) c.args.entities.now c.loop-e.e-index _ c.loop-e-test.true c.loop-e.invariant c.in_ok-insert.ensures.updates.0

pub returns-clause-known : goal.returns-clause-known
returns-clause-known c = (known_all (get nat_cmp c.loop-e.counts) c.args.entities.now c.loop-e.e-index c.loop-e-test.false c.loop-e.invariant).0

pub returns-clause-counts : goal.returns-clause-counts
returns-clause-counts c = (known_all (get nat_cmp c.loop-e.counts) c.args.entities.now c.loop-e.e-index c.loop-e-test.false c.loop-e.invariant).1
