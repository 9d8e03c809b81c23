use Rattle.fol_keyed.proofs.Pending.{changed_nothing, none_pending}
use Rattle.fol_keyed.proofs.chunk_set.ChunkSet.put.Goals as goal

pub invariant_of-self : goal.invariant_of-self
invariant_of-self c = none_pending _ _ _ c.clear.ensures.items

pub returns : goal.returns
returns c = changed_nothing _ _ c.clear.ensures.items
