use Rattle.std.proofs.Common.{refl}
use Rattle.fol_model.specs.Geometry.{chunk_of, is_block, is_chunk}
use Rattle.fol_model.specs.Limits.{is_delay}
use Rattle.fol_tick_laws.specs.Touching.{IsAlone}
use Rattle.fol_tick_laws.proofs.Unprepared.{IsLeft, left_posted}
use Rattle.fol_tick_laws.proofs.early.posts_far.Goals as goal

pub post-requires-clause-in_range : goal.post-requires-clause-in_range
unfolding is_chunk
post-requires-clause-in_range g c = refl

pub post-requires-clause-delay : goal.post-requires-clause-delay
unfolding is_delay
post-requires-clause-delay g c = refl

pub post-requires-clause-action : goal.post-requires-clause-action
unfolding is_block is_chunk chunk_of
post-requires-clause-action g c = refl

pub returns : goal.returns
returns g c =
    let same = c.spares.ensures.same in
    let alone : IsAlone c.spares.new.core 1 = rw same c.requires in
    let left : IsLeft c.spares.new.core c.post.new.self 1 =
    left_posted c.spares.new.core c.post.new.self _ _ _ _ c.post.result 1 c.post.ensures.recorded c.post.ensures.refused (c.spares.ensures.spared.post 1 alone.prepared) alone in
    record { alone = left.0; untouched = rw (← same) left.1 }
