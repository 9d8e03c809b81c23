use Rattle.std.proofs.Common.{rules, ◌≡◌, ℕ, sym, ap, subst, ◌∙◌, false, Some}
use Rattle.fol_core.specs.Ahead.{Learns}
use Rattle.fol_core.specs.Meaning.{Meaning, is_prepared}
use Rattle.fol_slots.specs.Shown.{Keeper, held_slot, place_at}
use Rattle.fol_offers.specs.Offered.{Offered, of_tick}
use Rattle.fol_offers.specs.Tied.{Tied}
use Rattle.fol_offers.proofs.Facts.{prepared_on}
use Rattle.fol_offers.specs.Shown.{NoneFree, Shown}
use Rattle.fol_offers.proofs.MetTicks.{inside_places, met_known, met_learnt, open_met}
use Rattle.fol_offers.proofs.NoneLeft.{learnt_none_left}
use Rattle.fol_offers.proofs.offers.Offers.meet.Goals as goal

pub learn-requires-clause-on : goal.learn-requires-clause-on
learn-requires-clause-on c = prepared_on c.self.inside.core c.self.inside.keeper c.self.inside.places c.args.region c.self.invariant (search rules)

pub invariant_of-self : goal.invariant_of-self
invariant_of-self c =
    let m : Meaning = c.self.inside.core in
    let s : Keeper Offered = c.self.inside.keeper in
    let i : ℕ = held_slot c.args.seat in
    let k : ℕ = c.args.seat.number in
    let worker = c.number-worker.ensures.number in
    let did : Learns m c.learn.new.self k k c.args.region = rw worker at c.learn.ensures in
    subst (λ (x : Keeper Offered). Tied c.learn.new.self x c.self.inside.places) (sym c.meet-seat.ensures.keeper)
    (met_learnt m c.learn.new.self s c.self.inside.places i k c.args.region c.requires.has.tick c.self.invariant (search rules) c.meet-seat.ensures.only c.meet-seat.ensures.number c.meet-seat.ensures.not_kept (sym c.requires.has.claimed ∙ c.meet-seat.ensures.claimed) c.requires.has.of (search rules) did)

pub returns-then-is_prepared-clause-open : goal.returns-then-is_prepared-clause-open
returns-then-is_prepared-clause-open c = λ t e.
    let m : Meaning = c.self.inside.core in
    let s : Keeper Offered = c.self.inside.keeper in
    let i : ℕ = held_slot c.args.seat in
    let k : ℕ = c.args.seat.number in
    let worker = c.number-worker.ensures.number in
    let did : Learns m c.learn.new.self k k c.args.region = rw worker at c.learn.ensures in
    let gone = c.meet-seat.ensures.not_kept in
    let offered : Some (of_tick t) ≡ (place_at s i).offered = sym e ∙ c.meet-seat.ensures.claimed in
    open_met c.learn.new.self s c.self.inside.places i k t (inside_places m s c.self.inside.places i t c.self.invariant gone offered) gone offered
    (met_learnt m c.learn.new.self s c.self.inside.places i k c.args.region c.requires.has.tick c.self.invariant (search rules) c.meet-seat.ensures.only c.meet-seat.ensures.number gone (sym c.requires.has.claimed ∙ c.meet-seat.ensures.claimed) c.requires.has.of (search rules) did)

pub returns-then-is_prepared-clause-none : goal.returns-then-is_prepared-clause-none
returns-then-is_prepared-clause-none c = λ none.
    let m : Meaning = c.self.inside.core in
    learnt_none_left m c.learn.new.self c.number-worker.result c.number-worker.result c.args.region c.learn.ensures (subst (λ (v : Shown). NoneFree v.core) (sym c.self.view_is) none)

pub invariant_of-self-else-is_prepared : goal.invariant_of-self-else-is_prepared
invariant_of-self-else-is_prepared c =
    let m : Meaning = c.self.inside.core in
    let s : Keeper Offered = c.self.inside.keeper in
    let free : is_prepared m c.args.region ≡ false = sym c.is_prepared.ensures ∙ c.if-is_prepared.false in
    subst (λ (x : Keeper Offered). Tied m x c.self.inside.places) (sym c.meet-seat.ensures.keeper)
    (met_known m s c.self.inside.places (held_slot c.args.seat) c.args.seat.number c.requires.has.tick c.self.invariant c.meet-seat.ensures.found c.meet-seat.ensures.not_kept (sym c.requires.has.claimed ∙ c.meet-seat.ensures.claimed)
    (ap (is_prepared m) c.requires.has.of ∙ free))
