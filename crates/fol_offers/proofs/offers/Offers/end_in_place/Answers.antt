use Rattle.std.proofs.Common.{IsOk, rules, ◌≡◌, ℕ, All, IsTrue, List, sym, subst, refl, Some}
use Rattle.fol_model.specs.declared.tasks.Wish.{Wish}
use Rattle.fol_model.specs.Geometry.{is_chunk}
use Rattle.fol_laws.proofs.WishLimits.{WishOk}
use Rattle.fol_data.specs.declared.tick.Tick.{Tick}
use Rattle.fol_core.specs.Ahead.{Spares}
use Rattle.fol_core.specs.Meaning.{Meaning, world_of}
use Rattle.fol_core.specs.Ticks.{IsOut}
use Rattle.fol_tick_laws.specs.OpenTicks.{IsOpen}
use Rattle.fol_slots.specs.Shown.{Worker}
use Rattle.fol_offers.specs.Offered.{Offered, of_tick}
use Rattle.fol_offers.specs.Ends.{wishes_may_touch}
use Rattle.fol_offers.specs.Shown.{Shown}
use Rattle.fol_offers.proofs.CalledBack.{cleared_open, cleared_spared, cleared_unmarked}
use Rattle.fol_offers.proofs.MetTicks.{gives_has, met_unmarked, out_when_open, wishes_within}
use Rattle.fol_offers.proofs.Wishes.{each}
use Rattle.fol_offers.proofs.offers.Offers.end_in_place.Goals as goal

pub meet-seat-requires-clause-has : goal.meet-seat-requires-clause-has
meet-seat-requires-clause-has c = gives_has c.args.seat c.args.tick.now c.requires.ran

pub clear_wishes-requires-clause-in_range : goal.clear_wishes-requires-clause-in_range
clear_wishes-requires-clause-in_range c =
    let m : Meaning = c.self.inside.core in
    let tick : Tick = c.args.tick.now in
    let out : IsOut m tick = out_when_open m c.args.seat tick c.requires.ran
    (subst (λ (v : Shown). (t : Tick) → c.args.seat.claimed ≡ Some (of_tick t) → IsOpen v.core (record t { worker = c.args.seat.number })) (sym c.self.view_is) c.meet-seat.ensures.open) in
    subst (λ (xs : List Wish). All (λ (x : Wish). IsTrue (is_chunk x.chunk)) xs) (sym c.as_slice.ensures)
    (each (WishOk ((world_of m).recorded tick.region)) (λ (x : Wish). IsTrue (is_chunk x.chunk)) (λ x ok. ok.chunk) tick.log.wishes
    (wishes_within m c.self.inside.keeper c.self.inside.places c.self.invariant (search rules) tick out))

pub take_back-requires-clause-open : goal.take_back-requires-clause-open
take_back-requires-clause-open c =
    let met : Shown = c.meet-seat.new.self in
    let cleared : Shown = c.clear_wishes.new.self in
    subst (λ (s : Worker Offered). (t : Tick) → s.claimed ≡ Some (of_tick t) → IsOpen cleared.core (record t { worker = s.number })) (sym c.meet-seat.ensures.seat)
    (λ t e. cleared_open met cleared c.args.tick.now.worker c.as_slice.result.now c.clear_wishes.result c.clear_wishes.ensures (record t { worker = c.args.seat.number }) (c.meet-seat.ensures.open t e))

pub take_back-requires-clause-known : goal.take_back-requires-clause-known
take_back-requires-clause-known c =
    let r : ℕ = c.args.tick.now.region in
    cleared_unmarked c.meet-seat.new.self c.clear_wishes.new.self c.args.tick.now.worker c.as_slice.result.now c.clear_wishes.result c.clear_wishes.ensures r
    (met_unmarked c.args.self.now c.meet-seat.new.self c.args.seat.number r c.meet-seat.ensures.met)

pub take_back-requires-clause-cleared : goal.take_back-requires-clause-cleared
take_back-requires-clause-cleared c =
    let cleared : Shown = c.clear_wishes.new.self in
    subst (λ (xs : List Wish). Spares cleared.core (wishes_may_touch (world_of cleared.core) xs)) c.as_slice.ensures
    (cleared_spared c.meet-seat.new.self cleared c.args.tick.now.worker c.as_slice.result.now c.clear_wishes.result c.clear_wishes.ensures (subst (λ r. IsOk r) (sym c.in-Ok.is) refl))
