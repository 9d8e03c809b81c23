use Rattle.std.proofs.Common.{◌∙◌}
use Rattle.fol_keyed.proofs.Pending.{changed_nothing, none_pending}
use Rattle.fol_keyed.proofs.chunk_set.ChunkSet.new.Goals as goal

pub invariant_of-result : goal.invariant_of-result
invariant_of-result c = none_pending _ _ _ c.new-2.ensures.items

pub returns : goal.returns
returns c = changed_nothing _ _ c.new-2.ensures.items ∙ c.new.ensures.items
