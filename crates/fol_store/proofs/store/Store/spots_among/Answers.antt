use Rattle.std.proofs.Common.{◌≡◌, ℕ, true, get_or, sym, ◌∙◌, ap, subst, inl, inr, arith, pos, Some}
use Rattle.std.specs.Prelude.{nat_lt}
use Rattle.std.proofs.lemmas.Bool.{cases_Bool, ltb-true, ltb-false}
use Rattle.std.proofs.lemmas.List.{get_or_default}
use Rattle.fol_model.specs.declared.places.ChunkPos.{ChunkPos}
use Rattle.fol_chunks.specs.Contents.{is_recorded}
use Rattle.fol_bags.specs.declared.places.Place.{Place}
use Rattle.fol_store.specs.Stock.{place}
use Rattle.fol_bags.proofs.PlaceSteps.{bag-from_is}
use Rattle.fol_keyed.proofs.Recorded.{recorded_index}
use Rattle.fol_store.proofs.store.Store.spots_among.Goals as goal

pub returns-clause-homes : goal.returns-clause-homes
returns-clause-homes c = λ q h.
    let z : ChunkPos = record { x = pos 0; z = pos 0 } in
    let r = recorded_index c.args.chunks.now q z h in
    let P : ChunkPos → Type 0 = λ p. (place c.args.self.now p).bag ≡ Some c.args.id in
    subst P r.2 (c.loop-c.invariant.homes r.0 z (omega (arith, r.1, c.loop-c-test.false)))

pub returns-clause-noted : goal.returns-clause-noted
returns-clause-noted c = λ q i h at.
    let z : ChunkPos = record { x = pos 0; z = pos 0 } in
    let r = recorded_index c.args.chunks.now q z h in
    let P : ChunkPos → Type 0 = λ p. (place c.args.self.now p).spot ≡ Some i → is_recorded c.loop-c.list.items p ≡ true in
    subst P r.2 (c.loop-c.invariant.noted r.0 z i (omega (arith, r.1, c.loop-c-test.false))) at

-- the chunk of this turn
abbrev at : goal.In-Ok → ChunkPos → ChunkPos
at c d = get_or c.args.chunks.now c.loop-c.c-index d

abbrev first : ChunkPos
first = record { x = pos 0; z = pos 0 }

same : (c : goal.In-Ok) (d : ChunkPos) → at c d ≡ at c first
same c d = get_or_default c.args.chunks.now c.loop-c.c-index d first c.loop-c-test.true

placed : (c : goal.In-Ok) → c.at-place.result ≡ place c.args.self.now (at c first)
placed c = rw (← c.self.view_is) c.at-place.ensures

home : (c : goal.In-Ok) (d : ChunkPos) → (place c.args.self.now (at c d)).bag ≡ Some c.args.id
home c d =
    ap (λ q. (place c.args.self.now q).bag) (same c d) ∙ ap (λ (p : Place). p.bag) (sym (placed c)) ∙ bag-from_is c.at-place.result c.args.id (sym c.has_bag.ensures ∙ c.if-not-has_bag.false)

noted : (c : goal.In-Ok) (d : ChunkPos) (i : ℕ) → (place c.args.self.now (at c d)).spot ≡ Some i → is_recorded c.note_spot.new.list.items (at c d) ≡ true
noted c d i e =
    ap (is_recorded c.note_spot.new.list.items) (same c d)
    ∙ c.in-Ok.ensures.noted i (ap (λ (p : Place). p.spot) (placed c) ∙ ap (λ q. (place c.args.self.now q).spot) (sym (same c d)) ∙ e)

pub loop-c-preserved : goal.loop-c-preserved
loop-c-preserved c = record {
  homes = λ k d l. elim (cases_Bool (nat_lt k c.loop-c.c-index)) [
    | inl t ↦ c.loop-c.invariant.homes k d (ltb-true k c.loop-c.c-index t)
    | inr t ↦
        let here : k ≡ c.loop-c.c-index = omega (arith, ltb-false k c.loop-c.c-index t) in
        rw here (home c d)
  ];
  noted = λ k d i l e. elim (cases_Bool (nat_lt k c.loop-c.c-index)) [
    | inl t ↦ c.note_spot.ensures.kept _ (c.loop-c.invariant.noted k d i (ltb-true k c.loop-c.c-index t) e)
    | inr t ↦
        let here : k ≡ c.loop-c.c-index = omega (arith, ltb-false k c.loop-c.c-index t) in
        let P : ℕ → Type 0 = λ v. (place c.args.self.now (get_or c.args.chunks.now v d)).spot ≡ Some i → is_recorded c.note_spot.new.list.items (get_or c.args.chunks.now v d) ≡ true in
        subst P (sym here) (noted c d i) e
  ];
}
