use Rattle.std.proofs.Common.{◌≡◌, ◌-◌, ◌<◌, ◌&&◌, true, false, not, [], ◌∷◌, ◌++◌, length, sym, ◌∙◌, inl, inr, arith, vec_len, Some}
use Rattle.std.specs.Vec.{vec_capacity}
use Rattle.std.proofs.lemmas.Bool.{and_parts}
use Rattle.fol_model.specs.declared.places.ChunkPos.{ChunkPos}
use Rattle.fol_chunks.specs.Contents.{is_recorded}
use Rattle.fol_store.specs.contracts.store.Store.{the_view}
use Rattle.fol_bags.specs.Slots.{slot_in}
use Rattle.fol_store.specs.Stock.{slot, place}
use Rattle.fol_store.proofs.BagSteps.{with_bags}
use Rattle.fol_store.proofs.Noting.{marked_step, marked_is, unstirred_is}
use Rattle.fol_keyed.proofs.Recorded.{recorded_front, recorded_last}
use Rattle.fol_keyed.proofs.Answers.{answer_cases, on_ok}
use Rattle.fol_store.proofs.Spotting.{Spotted}
use Rattle.fol_store.proofs.store.Store.note_in.Goals as goal

pub is_stirred-requires : goal.is_stirred-requires
is_stirred-requires c =
    let home : (place (the_view c.self.inside) c.args.c).bag ≡ Some c.args.id = rw (← c.self.view_is) at c.requires in
    let l : c.args.id < length c.self.inside.bags.items = c.self.invariant.bag_range c.args.c c.args.id home in
    omega arith

pub touch-requires : goal.touch-requires
touch-requires c =
    let both : ((slot (the_view c.self.inside) c.args.id).listed && not (slot (the_view c.self.inside) c.args.id).calm) ≡ true = sym c.is_stirred.ensures ∙ c.if-is_stirred.true in
    (c.self.invariant.bags c.args.id).opened (and_parts (slot (the_view c.self.inside) c.args.id).listed (not (slot (the_view c.self.inside) c.args.id).calm) both).0

stirred : (c : goal.After-touch) → ((slot (the_view c.self.inside) c.args.id).listed && not (slot (the_view c.self.inside) c.args.id).calm) ≡ true
stirred c = sym c.is_stirred.ensures ∙ c.if-is_stirred.true

step : (c : goal.After-touch) → Spotted (the_view c.self.inside) (with_bags (the_view c.self.inside) c.touch.new.bags.items (vec_capacity c.self.inside.arrivals - vec_len c.self.inside.arrivals) c.touch.new.bags.free)
step c =
    marked_step (the_view c.self.inside) c.touch.new.bags.items _ _ c.args.id (slot_in c.touch.new.bags.items c.args.id).touched c.touch.ensures.sets.slots more
    (λ l m. absurd (not_both l m (stirred c))) (omega arith) (omega arith) (omega (arith, c.touch.ensures.sets.len, c.touch.ensures.sets.free)) c.self.invariant
  where
    not_both : (slot (the_view c.self.inside) c.args.id).listed ≡ true → (slot (the_view c.self.inside) c.args.id).calm ≡ true → ((slot (the_view c.self.inside) c.args.id).listed && not (slot (the_view c.self.inside) c.args.id).calm) ≡ true → ⊥
    not_both l m h = let z : false ≡ true = rw (l, m) at h in cc

    more : (q : ChunkPos) → is_recorded (slot (the_view c.self.inside) c.args.id).touched q ≡ true → is_recorded (slot_in c.touch.new.bags.items c.args.id).touched q ≡ true
    more q r = elim (answer_cases c.touch.result) [
      | inl w ↦
          let e : (slot_in c.touch.new.bags.items c.args.id).touched ≡ (slot (the_view c.self.inside) c.args.id).touched ++ c.args.c ∷ [] = rw w.1 at c.touch.ensures.noted in
          rw e (recorded_front (slot (the_view c.self.inside) c.args.id).touched (c.args.c ∷ []) q r)
      | inr w ↦
          let e : (slot_in c.touch.new.bags.items c.args.id).touched ≡ (slot (the_view c.self.inside) c.args.id).touched = rw w.1 at c.touch.ensures.err in
          rw e r
    ]

pub invariant_of-self : goal.invariant_of-self
invariant_of-self c = (step c).sound

pub returns-then-is_stirred-clause-same : goal.returns-then-is_stirred-clause-same
returns-then-is_stirred-clause-same c = rw (← c.self.view_is) (step c).same

pub returns-then-is_stirred-clause-bags : goal.returns-then-is_stirred-clause-bags
returns-then-is_stirred-clause-bags c = rw (← c.self.view_is) (step c).bags

pub returns-then-is_stirred-clause-noted : goal.returns-then-is_stirred-clause-noted
returns-then-is_stirred-clause-noted c =
    let home : (place (the_view c.self.inside) c.args.c).bag ≡ Some c.args.id = rw (← c.self.view_is) at c.requires in
    on_ok c.touch.result _ _ c.touch.ensures.noted
    (λ e. marked_is (the_view c.self.inside) c.touch.new.bags.items (vec_capacity c.self.inside.arrivals - vec_len c.self.inside.arrivals) c.touch.new.bags.free c.args.id (slot_in c.touch.new.bags.items c.args.id).touched c.touch.ensures.sets.slots c.args.c home (rw e (recorded_last (slot (the_view c.self.inside) c.args.id).touched c.args.c)))

pub returns-else-is_stirred-clause-noted : goal.returns-else-is_stirred-clause-noted
returns-else-is_stirred-clause-noted c =
    let home : (place (the_view c.self.inside) c.args.c).bag ≡ Some c.args.id = rw (← c.self.view_is) at c.requires in
    let e = sym c.is_stirred.ensures ∙ c.if-is_stirred.false in
    rw (← c.self.view_is) (unstirred_is (the_view c.self.inside) c.args.id c.args.c home e)
