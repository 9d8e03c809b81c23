use Rattle.std.proofs.Common.{refl}
use Rattle.fol_model.specs.Geometry.{chunk_of, is_block, is_chunk}
use Rattle.fol_model.specs.Limits.{is_delay}
use Rattle.fol_tick_laws.proofs.Unprepared.{calm_posted}
use Rattle.fol_bench.proofs.early.World.post.Goals as goal

pub post-requires-clause-in_range : goal.post-requires-clause-in_range
unfolding is_chunk
post-requires-clause-in_range c = refl

pub post-requires-clause-delay : goal.post-requires-clause-delay
unfolding is_delay
post-requires-clause-delay c = refl

pub post-requires-clause-action : goal.post-requires-clause-action
unfolding is_block is_chunk chunk_of
post-requires-clause-action c = refl

pub invariant_of-self : goal.invariant_of-self
invariant_of-self c = calm_posted c.self.inside.core c.post.new.self _ _ _ _ c.post.result c.post.ensures.recorded c.post.ensures.refused c.self.invariant
