use Rattle.std.proofs.Common.{rules, ◌≡◌, ℕ, ◌<◌, List, ◌++◌, refl, sym, ◌∙◌, ap, subst, false, Some}
use Rattle.std.proofs.lemmas.Bool.{eq-eqb}
use Rattle.fol_model.specs.declared.events.Entry.{Entry}
use Rattle.fol_data.specs.declared.tick.Tick.{Tick}
use Rattle.fol_core.specs.Ahead.{Spares}
use Rattle.fol_core.specs.Meaning.{Meaning, is_prepared, world_of}
use Rattle.fol_core.specs.Ticks.{IsOut}
use Rattle.fol_tick_laws.specs.OpenTicks.{IsOpen}
use Rattle.fol_slots.specs.Shown.{Keeper, held_slot, keeping}
use Rattle.fol_offers.specs.Offered.{Offered, of_tick}
use Rattle.fol_offers.specs.Ends.{wishes_may_touch}
use Rattle.fol_offers.specs.InTurn.{IsFree}
use Rattle.fol_offers.specs.Shown.{Shown}
use Rattle.fol_offers.proofs.MetTicks.{end_spares, gives_slot, out_when_open, tied_taken_in}
use Rattle.fol_offers.proofs.Turns.{end_frees}
use Rattle.fol_offers.proofs.Tying.{tied_stays}
use Rattle.fol_offers.proofs.offers.Offers.take_back.Goals as goal

pub end-requires-clause-out : goal.end-requires-clause-out
end-requires-clause-out c =
    out_when_open c.self.inside.core c.args.seat c.args.tick.now c.requires.ran
    (subst (λ (v : Shown). (t : Tick) → c.args.seat.claimed ≡ Some (of_tick t) → IsOpen v.core (record t { worker = c.args.seat.number })) (sym c.self.view_is) c.requires.open)

pub end-requires-clause-spares : goal.end-requires-clause-spares
end-requires-clause-spares c =
    let tick : Tick = c.args.tick.now in
    let out : IsOut c.self.inside.core tick = out_when_open c.self.inside.core c.args.seat tick c.requires.ran
    (subst (λ (v : Shown). (t : Tick) → c.args.seat.claimed ≡ Some (of_tick t) → IsOpen v.core (record t { worker = c.args.seat.number })) (sym c.self.view_is) c.requires.open) in
    end_spares c.self.inside.core c.self.inside.keeper c.self.inside.places c.self.invariant (search rules) tick out
    (subst (λ (v : Shown). Spares v.core (wishes_may_touch (world_of v.core) tick.log.wishes)) (sym c.self.view_is) c.requires.cleared)

pub invariant_of-self : goal.invariant_of-self
invariant_of-self c = tied_stays c.self.inside.core c.end.new.self c.self.inside.keeper c.self.inside.places c.in-Err.ensures.refused c.self.invariant

pub slot_of-requires : goal.slot_of-requires
slot_of-requires c = (gives_slot c.self.inside.core c.self.inside.keeper c.self.inside.places c.args.seat c.args.tick.now c.self.invariant c.requires.ran c.take_in-seat.ensures.not_kept c.take_in-seat.ensures.claimed).some

pub invariant_of-self-in-Ok : goal.invariant_of-self-in-Ok
invariant_of-self-in-Ok c =
    let m : Meaning = c.self.inside.core in
    let s : Keeper Offered = c.self.inside.keeper in
    let xs : List ℕ = c.self.inside.places in
    let tick : Tick = c.args.tick.now in
    let out : IsOut m tick = out_when_open m c.args.seat tick c.requires.ran
    (subst (λ (v : Shown). (t : Tick) → c.args.seat.claimed ≡ Some (of_tick t) → IsOpen v.core (record t { worker = c.args.seat.number })) (sym c.self.view_is) c.requires.open) in
    let has = gives_slot m s xs c.args.seat tick c.self.invariant c.requires.ran c.take_in-seat.ensures.not_kept c.take_in-seat.ensures.claimed in
    tied_taken_in m s xs c.self.invariant (search rules) tick out c.end.new.self c.take_in-seat.new.keeper c.clear.new.self c.args.seat c.in-Some.i has c.in-Some.ensures.some.0 c.in-Some.ensures.some.1
    (subst (λ (v : Shown). is_prepared v.core tick.region ≡ false) (sym c.self.view_is) c.requires.known)
    (subst (λ (v : Shown). Spares v.core (wishes_may_touch (world_of v.core) tick.log.wishes)) (sym c.self.view_is) c.requires.cleared)
    c.in-Ok.ensures.recorded (c.take_in-seat.ensures.keeper ∙ ap (λ (o : Offered). keeping s (held_slot c.args.seat) (Some o)) c.nothing.ensures) c.clear.ensures

pub unreachable-requires : goal.unreachable-requires
unreachable-requires c =
    let has = gives_slot c.self.inside.core c.self.inside.keeper c.self.inside.places c.args.seat c.args.tick.now c.self.invariant c.requires.ran c.take_in-seat.ensures.not_kept c.take_in-seat.ensures.claimed in
    c.in_default.ensures.none refl (held_slot c.args.seat) has.own

pub clear-requires : goal.clear-requires
clear-requires c =
    let has = gives_slot c.self.inside.core c.self.inside.keeper c.self.inside.places c.args.seat c.args.tick.now c.self.invariant c.requires.ran c.take_in-seat.ensures.not_kept c.take_in-seat.ensures.claimed in
    subst (λ (x : ℕ). 0 < x) (sym c.in-Some.ensures.some.1) has.some

pub returns-in-Some-clause-free : goal.returns-in-Some-clause-free
returns-in-Some-clause-free c =
    let m : Meaning = c.self.inside.core in
    let s : Keeper Offered = c.self.inside.keeper in
    let tick : Tick = c.args.tick.now in
    let out : IsOut m tick = out_when_open m c.args.seat tick c.requires.ran
    (subst (λ (v : Shown). (t : Tick) → c.args.seat.claimed ≡ Some (of_tick t) → IsOpen v.core (record t { worker = c.args.seat.number })) (sym c.self.view_is) c.requires.open) in
    let free = end_frees s.workers tick.worker tick.region m.history (out.made.before ++ out.made.between) out.made.since _ _ c.self.invariant.in_turn out.made.begin refl out.made.runs_on (eq-eqb tick.region tick.region refl) in
    let now : IsFree s.workers c.end.new.self.history tick.worker = subst (λ (h : List Entry). IsFree s.workers h tick.worker) (sym c.in-Ok.ensures.recorded.history) free in
    subst (λ (k : ℕ). IsFree k c.end.new.self.history tick.worker) (sym (ap (λ (x : Keeper Offered). x.workers) c.take_in-seat.ensures.keeper)) now
