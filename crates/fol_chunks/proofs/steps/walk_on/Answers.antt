use Rattle.std.proofs.Common.{◌∙◌, sym, ap, map, List}
use Rattle.fol_model.specs.declared.entities.Entity.{Entity}
use Rattle.fol_chunks.specs.Contents.{is_recorded}
use Rattle.fol_chunks.specs.Rows.{stepped}
use Rattle.fol_chunks.proofs.Often.{iterate_next}
use Rattle.fol_chunks.proofs.steps.walk_on.Goals as goal

pub loop-tick-preserved : goal.loop-tick-preserved
loop-tick-preserved g c =
    let step : List Entity → List Entity = map (stepped (is_recorded (g.L.Lookup.listed c.args.recorded.now))) in
    c.step_on.ensures ∙ ap step c.loop-tick.invariant ∙ sym (iterate_next step c.loop-tick._tick c.args.entities.now)
