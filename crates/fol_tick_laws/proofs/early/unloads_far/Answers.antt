use Rattle.std.proofs.Common.{refl}
use Rattle.fol_model.specs.Geometry.{is_chunk}
use Rattle.fol_tick_laws.specs.Touching.{IsAlone}
use Rattle.fol_tick_laws.proofs.Unprepared.{IsLeft, left_unloaded}
use Rattle.fol_tick_laws.proofs.early.unloads_far.Goals as goal

pub unload-requires-clause-in_range : goal.unload-requires-clause-in_range
unfolding is_chunk
unload-requires-clause-in_range g c = refl

pub returns : goal.returns
returns g c =
    let same = c.spares.ensures.same in
    let alone : IsAlone c.spares.new.core 1 = rw same c.requires in
    let left : IsLeft c.spares.new.core c.unload.new.self 1 =
    left_unloaded c.spares.new.core c.unload.new.self 0 _ c.in-Ok.answer 1 c.in-Ok.ensures.recorded (c.spares.ensures.spared.unload 1 alone.prepared) alone in
    record { alone = left.0; untouched = rw (← same) left.1 }
