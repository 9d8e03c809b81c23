use Rattle.std.proofs.Common.{◌||◌, ◌∙◌, get_or, refl, sym, ap, pos}
use Rattle.std.proofs.lemmas.List.Folds.{list_any_more}
use Rattle.fol_model.specs.declared.places.ChunkPos.{ChunkPos}
use Rattle.fol_model.specs.Geometry.{same_chunk}
use Rattle.fol_chunks.proofs.Masks.{none_marked}
use Rattle.fol_chunks.proofs.mask.Mask.of.Goals as goal

pub loop-c-init : goal.loop-c-init
loop-c-init c = λ q. sym (none_marked _ q)

pub loop-c-preserved : goal.loop-c-preserved
loop-c-preserved c = λ q.
    let d : ChunkPos = record { x = pos 0; z = pos 0 } in
    list_any_more (same_chunk q) c.args.chunks.now c.loop-c.c-index d c.loop-c-test.true
    ∙ ap (λ b. b || same_chunk q (get_or c.args.chunks.now c.loop-c.c-index d)) (c.loop-c.invariant q)
    ∙ sym (c.if-not-mark.ensures refl q)
