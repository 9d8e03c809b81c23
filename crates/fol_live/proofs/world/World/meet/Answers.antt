use Rattle.std.proofs.Common.{◌∙◌, ap, sym, subst}
use Rattle.fol_tick_laws.proofs.OpenTicks.{open_same}
use Rattle.std.proofs.Common.{refl}
use Rattle.fol_offers.specs.Shown as offers
use Rattle.fol_offers.specs.Shown.{NoneFree}
use Rattle.fol_live.specs.Kept.{IsKept}
use Rattle.fol_live.specs.Shown.{Shown, meaning_of, shown}
use Rattle.fol_live.specs.Turns.{HasOpen, Learns}
use Rattle.fol_live.proofs.Answering.{Tells}
use Rattle.fol_live.proofs.Ending.{met_learns}
use Rattle.fol_live.proofs.Moved.{carried}
use Rattle.fol_live.proofs.world.World.meet.Goals as goal

pub invariant_of-self : goal.invariant_of-self
invariant_of-self c =
    let old : offers.Shown = c.deref_mut.result.now in
    let new : offers.Shown = c.meet-seat.new.self in
    let kept : IsKept (shown old) = rw c.deref_mut.ensures.value c.self.invariant.0 in
    let there : Tells c.deref.result.now = record { grid = c.keeps.ensures.grid; run = c.keeps.ensures.run; turns = c.keeps.ensures.in_turn } in
    let tells : Tells new = subst Tells c.deref.ensures there in
    ((met_learns old new c.args.seat.number c.args.region kept tells c.meet-seat.ensures.met).keeps, λ never. absurd (cc))

pub returns-then-self-clause-learns : goal.returns-then-self-clause-learns
returns-then-self-clause-learns c =
    let old : offers.Shown = c.deref_mut.result.now in
    let new : offers.Shown = c.meet-seat.new.self in
    let kept : IsKept (shown old) = rw c.deref_mut.ensures.value c.self.invariant.0 in
    let there : Tells c.deref.result.now = record { grid = c.keeps.ensures.grid; run = c.keeps.ensures.run; turns = c.keeps.ensures.in_turn } in
    let tells : Tells new = subst Tells c.deref.ensures there in
    carried (λ a b. Learns a b c.args.seat.number) (ap shown c.deref_mut.ensures.value ∙ c.self.view_is) c.offer_rest.ensures
    (met_learns old new c.args.seat.number c.args.region kept tells c.meet-seat.ensures.met)

pub returns-then-self-clause-open : goal.returns-then-self-clause-open
returns-then-self-clause-open c =
    let new : offers.Shown = c.meet-seat.new.self in
    let here : HasOpen (shown new) c.args.seat = λ t is. open_same new.core (meaning_of (shown new)) refl refl (record t { worker = c.args.seat.number }) (c.meet-seat.ensures.open t is) in
    subst (λ (s : Shown). HasOpen s c.args.seat) (sym c.offer_rest.ensures) here

pub invariant_of-self-else-self : goal.invariant_of-self-else-self
invariant_of-self-else-self c =
    let old : offers.Shown = c.deref_mut.result.now in
    let new : offers.Shown = c.meet-seat.new.self in
    let kept : IsKept (shown old) = rw c.deref_mut.ensures.value c.self.invariant.0 in
    let there : Tells c.deref.result.now = record { grid = c.keeps.ensures.grid; run = c.keeps.ensures.run; turns = c.keeps.ensures.in_turn } in
    let tells : Tells new = subst Tells c.deref.ensures there in (
      (met_learns old new c.args.seat.number c.args.region kept tells c.meet-seat.ensures.met).keeps,
      λ long. c.meet-seat.ensures.none (subst (λ (v : offers.Shown). NoneFree v.core) (sym c.deref_mut.ensures.value) (c.self.invariant.1 long)),
    )

pub returns-else-self-clause-learns : goal.returns-else-self-clause-learns
returns-else-self-clause-learns c =
    let old : offers.Shown = c.deref_mut.result.now in
    let new : offers.Shown = c.meet-seat.new.self in
    let kept : IsKept (shown old) = rw c.deref_mut.ensures.value c.self.invariant.0 in
    let there : Tells c.deref.result.now = record { grid = c.keeps.ensures.grid; run = c.keeps.ensures.run; turns = c.keeps.ensures.in_turn } in
    let tells : Tells new = subst Tells c.deref.ensures there in
    carried (λ a b. Learns a b c.args.seat.number) (ap shown c.deref_mut.ensures.value ∙ c.self.view_is) refl
    (met_learns old new c.args.seat.number c.args.region kept tells c.meet-seat.ensures.met)

pub returns-else-self-clause-open : goal.returns-else-self-clause-open
returns-else-self-clause-open c =
    let new : offers.Shown = c.meet-seat.new.self in
    λ t is. open_same new.core (meaning_of (shown new)) refl refl (record t { worker = c.args.seat.number }) (c.meet-seat.ensures.open t is)
