use Rattle.std.proofs.Common.{◌≡◌, get_or, ◌∙◌, ap, subst, inl, inr, arith, pos, Some}
use Rattle.std.proofs.lemmas.Bool.{cases_Bool, cases_eq}
use Rattle.fol_model.specs.declared.places.ChunkPos.{ChunkPos}
use Rattle.fol_chunks.specs.Contents.{is_recorded}
use Rattle.fol_bags.specs.Places.{PlaceRows, place_at}
use Rattle.fol_store.specs.Stock.{place, bag_of}
use Rattle.fol_store.specs.Steps.{IsGathered}
use Rattle.fol_bags.proofs.OpenBags.{get_or-any}
use Rattle.fol_store.proofs.Stepping.{target_own, draws_own}
use Rattle.fol_keyed.proofs.Recorded.{recorded_index}
use Rattle.fol_store.proofs.store.Store.draw_touched.Goals as goal

pub draw_known-requires : goal.draw_known-requires
draw_known-requires c = target_own c.args.id (bag_of c.args.self.now c.args.id).chunks c.args.self.now c.loop-c.self c.requires.target c.loop-c.invariant.draws

pub loop-c-preserved : goal.loop-c-preserved
loop-c-preserved c = record {
  draws = draws_own c.args.id (bag_of c.args.self.now c.args.id).chunks c.args.self.now c.loop-c.self c.draw_known.new.self c.requires.target c.loop-c.invariant.draws c.draw_known.ensures.draws;
  places = c.draw_known.ensures.places ∙ c.loop-c.invariant.places;
  drawn = λ k d l h.
      elim (cases_eq c.loop-c.c-index k) [
        | inl e ↦
            let z : ChunkPos = record { x = pos 0; z = pos 0 } in
            let q : get_or c.args.touched.now c.loop-c.c-index z ≡ get_or c.args.touched.now c.loop-c.c-index d = get_or-any c.args.touched.now c.loop-c.c-index z d c.loop-c-test.true in
            let r : get_or c.args.touched.now c.loop-c.c-index z ≡ get_or c.args.touched.now k d = q ∙ ap (λ n. get_or c.args.touched.now n d) e in
            let home : (place c.loop-c.self (get_or c.args.touched.now c.loop-c.c-index z)).bag ≡ Some c.args.id =
            ap (λ (p : PlaceRows). (place_at p (get_or c.args.touched.now c.loop-c.c-index z)).bag) c.loop-c.invariant.places ∙ ap (λ y. (place c.args.self.now y).bag) r ∙ h in
            subst (IsGathered c.draw_known.new.self c.args.id) r (c.in_ok-draw_known.ensures.gathered home)
        | inr n ↦ c.draw_known.ensures.draws.gathered (get_or c.args.touched.now k d) (c.loop-c.invariant.drawn k d (omega arith) h)
      ];
}

pub returns-clause-gathered : goal.returns-clause-gathered
returns-clause-gathered c = λ q h.
    elim (cases_Bool (is_recorded c.args.touched.now q)) [
      | inl t ↦
          let z : ChunkPos = record { x = pos 0; z = pos 0 } in
          let r = recorded_index c.args.touched.now q z t in
          subst (IsGathered c.loop-c.self c.args.id) r.2
          (c.loop-c.invariant.drawn r.0 z (omega (arith, r.1, c.loop-c-test.false)) (ap (λ y. (place c.args.self.now y).bag) r.2 ∙ c.requires.homes q h))
      | inr t ↦ c.loop-c.invariant.draws.gathered q (c.requires.rest q h t)
    ]
