use Rattle.std.proofs.Common.{◌≡◌, ◌&&◌, ◌||◌, not, Bool, true, false, refl, sym, ◌∙◌, ap, take, get_or, pos}
use Rattle.fol_model.specs.Geometry.{same_chunk}
use Rattle.fol_model.specs.declared.places.ChunkPos.{ChunkPos}
use Rattle.fol_chunks.specs.Contents.{is_recorded}
use Rattle.fol_keyed.proofs.Recorded.{recorded_more}
use Rattle.fol_bags.proofs.difference.narrow_all.Goals as goal

neither : (a b s : Bool) → ((a && not b) && not s) ≡ (a && not (b || s))
neither true true s = refl
neither true false s = refl
neither false b s = refl

pub loop-c-preserved : goal.loop-c-preserved
loop-c-preserved c =
    let d : ChunkPos = record { x = pos 0; z = pos 0 } in
    let others = c.args.others.now in
    let k = c.loop-c.c-index in
    record {
      order = c.narrow.ensures.order;
      has = λ q.
          c.narrow.ensures.has q
          ∙ ap (λ a. a && not (same_chunk (get_or others k d) q)) (c.loop-c.invariant.has q)
          ∙ neither (is_recorded c.args.set.now q) (is_recorded (take k others) q) (same_chunk (get_or others k d) q)
          ∙ ap (λ b. is_recorded c.args.set.now q && not b) (sym (recorded_more others k d q c.loop-c-test.true));
    }
