use Rattle.fol_chunks.proofs.Tallies.{none_counted}
use Rattle.fol_chunks.proofs.counted.Counted.new.Goals as goal

pub invariant_of-result : goal.invariant_of-result
invariant_of-result c = rw (c.new.ensures.items, c.new-2.ensures.empty) none_counted
