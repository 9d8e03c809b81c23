use Rattle.std.proofs.Common.{sym, ◌∙◌, ap, take, get_or, pos}
use Rattle.fol_model.specs.Geometry.{same_chunk}
use Rattle.fol_model.specs.declared.places.ChunkPos.{ChunkPos}
use Rattle.fol_chunks.specs.Contents.{is_recorded}
use Rattle.fol_bags.specs.Places.{place_at}
use Rattle.fol_bags.proofs.PlaceSteps.{renamed, renamed_twice}
use Rattle.fol_keyed.proofs.Recorded.{recorded_more}
use Rattle.fol_bags.proofs.places.Places.rehome.Goals as goal

pub loop-c-preserved : goal.loop-c-preserved
loop-c-preserved c = λ q.
    let d : ChunkPos = record { x = pos 0; z = pos 0 } in
    c.rehome_one.ensures q
    ∙ ap (renamed (same_chunk (get_or c.args.chunks.now c.loop-c.c-index d) q) c.args.from c.args.to) (c.loop-c.invariant q)
    ∙ renamed_twice (is_recorded (take c.loop-c.c-index c.args.chunks.now) q) (same_chunk (get_or c.args.chunks.now c.loop-c.c-index d) q) c.args.from c.args.to (place_at c.args.self.now q)
    ∙ ap (λ b. renamed b c.args.from c.args.to (place_at c.args.self.now q)) (sym (recorded_more c.args.chunks.now c.loop-c.c-index d q c.loop-c-test.true))
