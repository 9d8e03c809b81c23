use Rattle.std.proofs.Common.{◌≡◌, get_or, ◌∙◌, ap, subst, inl, inr, arith, pos}
use Rattle.std.proofs.lemmas.Bool.{cases_eq}
use Rattle.fol_model.specs.declared.places.ChunkPos.{ChunkPos}
use Rattle.fol_store.specs.Steps.{IsGathered}
use Rattle.fol_bags.proofs.OpenBags.{get_or-any}
use Rattle.fol_store.proofs.Stepping.{draws_trans, target_kept}
use Rattle.fol_keyed.proofs.Recorded.{recorded_at, recorded_index}
use Rattle.fol_store.proofs.store.Store.draw_all.Goals as goal

pub draw-requires-clause-target : goal.draw-requires-clause-target
draw-requires-clause-target c = target_kept c.args.id c.args.chunks.now c.args.self.now c.loop-c.self c.requires.target c.loop-c.invariant.draws

pub draw-requires-clause-listed : goal.draw-requires-clause-listed
draw-requires-clause-listed c = recorded_at c.args.chunks.now c.loop-c.c-index _ c.loop-c-test.true

pub loop-c-preserved : goal.loop-c-preserved
loop-c-preserved c = record {
  draws = draws_trans c.args.id c.args.chunks.now c.args.self.now c.loop-c.self c.draw.new.self c.loop-c.invariant.draws c.draw.ensures.draws;
  gathered = λ k d l.
      elim (cases_eq c.loop-c.c-index k) [
        | inl e ↦
            let z : ChunkPos = record { x = pos 0; z = pos 0 } in
            let q : get_or c.args.chunks.now c.loop-c.c-index z ≡ get_or c.args.chunks.now c.loop-c.c-index d = get_or-any c.args.chunks.now c.loop-c.c-index z d c.loop-c-test.true in
            let r : get_or c.args.chunks.now c.loop-c.c-index z ≡ get_or c.args.chunks.now k d = q ∙ ap (λ n. get_or c.args.chunks.now n d) e in
            subst (IsGathered c.draw.new.self c.args.id) r c.in_ok-draw.ensures.gathered
        | inr n ↦ c.draw.ensures.draws.gathered (get_or c.args.chunks.now k d) (c.loop-c.invariant.gathered k d (omega arith))
      ];
}

pub returns-clause-gathered : goal.returns-clause-gathered
returns-clause-gathered c = λ q h.
    let z : ChunkPos = record { x = pos 0; z = pos 0 } in
    let r = recorded_index c.args.chunks.now q z h in
    subst (IsGathered c.loop-c.self c.args.id) r.2 (c.loop-c.invariant.gathered r.0 z (omega (arith, r.1, c.loop-c-test.false)))
