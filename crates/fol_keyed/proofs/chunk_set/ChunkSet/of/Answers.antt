use Rattle.fol_keyed.proofs.Pending.{changed_nothing, none_pending}
use Rattle.fol_keyed.proofs.chunk_set.ChunkSet.of.Goals as goal

pub invariant_of-result : goal.invariant_of-result
invariant_of-result c = none_pending _ _ _ c.new.ensures.items

pub returns : goal.returns
returns c = changed_nothing _ _ c.new.ensures.items
