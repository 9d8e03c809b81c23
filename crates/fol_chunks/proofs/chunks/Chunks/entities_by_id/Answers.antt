use Rattle.std.specs.List.Sorted.{IsStrictlySortedBy}
use Rattle.fol_chunks.proofs.chunks.Chunks.entities_by_id.Goals as goal

pub returns-in-None-clause-order : goal.returns-in-None-clause-order
unfolding IsStrictlySortedBy
returns-in-None-clause-order c = rw c.new.ensures.items tt
