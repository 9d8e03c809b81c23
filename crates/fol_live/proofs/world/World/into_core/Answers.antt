use Rattle.std.proofs.Common.{◌≡◌, ◌∙◌, ap, refl, subst}
use Rattle.fol_offers.specs.Shown as offers
use Rattle.fol_offers.specs.Shown.{every}
use Rattle.fol_live.specs.Kept.{IsKept}
use Rattle.fol_live.specs.Shown.{Shown, shown}
use Rattle.fol_live.specs.Turns.{Learns}
use Rattle.fol_live.proofs.Answering.{Tells, grows_same, learns_back}
use Rattle.fol_live.proofs.world.World.into_core.Goals as goal

pub returns-clause-learns : goal.returns-clause-learns
returns-clause-learns c =
    let old : offers.Shown = c.into_inner.result in
    let new : offers.Shown = record old { core = c.into_core.result } in
    let here : shown old ≡ c.args.self = ap shown c.into_inner.ensures ∙ c.self.view_is in
    let kept : IsKept (shown old) = rw c.into_inner.ensures c.self.invariant.0 in
    let tells : Tells new = record { grid = c.into_core.ensures.grid; run = c.into_core.ensures.run; turns = c.into_core.ensures.turns } in
    let same = grows_same new.core new.core (record { opening = refl; history = refl; prepared = refl }) in
    subst (λ (s : Shown). Learns s (record s { history = c.into_core.result.history }) c.args.by) here
    (let l = (learns_back old new new c.args.by every kept tells refl same c.into_core.ensures.back).0 in subst (λ (t : Shown). Learns (shown old) t c.args.by) (let e = c.into_core.ensures.back.opening in rw e refl) l)
