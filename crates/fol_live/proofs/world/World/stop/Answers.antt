use Rattle.std.proofs.Common.{◌∙◌, ap, refl, subst}
use Rattle.fol_offers.specs.Shown as offers
use Rattle.fol_live.specs.Kept.{IsKept}
use Rattle.fol_live.specs.Shown.{shown}
use Rattle.fol_live.specs.Turns.{Stops}
use Rattle.fol_live.proofs.Answering.{Tells, stops_back}
use Rattle.fol_live.proofs.Moved.{carried}
use Rattle.fol_live.proofs.world.World.stop.Goals as goal

pub returns : goal.returns
returns c =
    let old : offers.Shown = c.deref_mut.result.now in
    let new : offers.Shown = c.stop.new.self in
    let told = c.stop.ensures in
    let kept : IsKept (shown old) = rw c.deref_mut.ensures.value c.self.invariant.0 in
    let there : Tells c.deref.result.now = record { grid = c.keeps.ensures.grid; run = c.keeps.ensures.run; turns = c.keeps.ensures.in_turn } in
    let tells : Tells new = subst Tells c.deref.ensures there in
    carried (λ a b. Stops a b c.args.by) (ap shown c.deref_mut.ensures.value ∙ c.self.view_is) refl (stops_back old new c.args.by kept tells told.workers told)
