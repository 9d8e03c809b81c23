use Rattle.std.proofs.Common.{◌∙◌, ap, refl, subst}
use Rattle.fol_offers.specs.Shown as offers
use Rattle.fol_live.specs.Kept.{IsKept}
use Rattle.fol_live.specs.Shown.{shown}
use Rattle.fol_live.specs.Turns.{Ends}
use Rattle.fol_live.proofs.Answering.{Tells}
use Rattle.fol_live.proofs.Ending.{ends}
use Rattle.fol_live.proofs.Moved.{carried}
use Rattle.fol_live.proofs.world.World.end_tick.Goals as goal

pub invariant_of-self : goal.invariant_of-self
invariant_of-self c =
    let old : offers.Shown = c.deref_mut.result.now in
    let new : offers.Shown = c.end-seat.new.self in
    let kept : IsKept (shown old) = rw c.deref_mut.ensures.value c.self.invariant.0 in
    let there : Tells c.deref.result.now = record { grid = c.keeps.ensures.grid; run = c.keeps.ensures.run; turns = c.keeps.ensures.in_turn } in
    let tells : Tells new = subst Tells c.deref.ensures there in
    ((ends old new c.args.tick.value c.end-seat.result.1 kept tells c.end-seat.ensures.ends).keeps, λ never. absurd (cc))

pub returns-clause-ends : goal.returns-clause-ends
returns-clause-ends c =
    let old : offers.Shown = c.deref_mut.result.now in
    let new : offers.Shown = c.end-seat.new.self in
    let kept : IsKept (shown old) = rw c.deref_mut.ensures.value c.self.invariant.0 in
    let there : Tells c.deref.result.now = record { grid = c.keeps.ensures.grid; run = c.keeps.ensures.run; turns = c.keeps.ensures.in_turn } in
    let tells : Tells new = subst Tells c.deref.ensures there in
    carried (λ a b. Ends a b c.args.tick.value c.end-seat.result.1) (ap shown c.deref_mut.ensures.value ∙ c.self.view_is) refl
    (ends old new c.args.tick.value c.end-seat.result.1 kept tells c.end-seat.ensures.ends)
