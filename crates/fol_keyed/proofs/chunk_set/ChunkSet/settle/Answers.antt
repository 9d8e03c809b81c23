use Rattle.std.proofs.Common.{◌∙◌}
use Rattle.fol_keyed.proofs.Pending.{changed_nothing, none_pending}
use Rattle.fol_keyed.proofs.chunk_set.ChunkSet.settle.Goals as goal

pub invariant_of-self : goal.invariant_of-self
invariant_of-self c = none_pending _ _ _ c.settle.ensures.changes

pub returns : goal.returns
returns c = record { same = changed_nothing _ _ c.settle.ensures.changes ∙ (c.settle.ensures.list ∙ c.self.view_is) }
