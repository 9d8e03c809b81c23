use Rattle.std.proofs.Common.{◌∙◌, ap, refl, subst}
use Rattle.fol_offers.specs.Shown as offers
use Rattle.fol_live.specs.Kept.{IsKept}
use Rattle.fol_live.specs.Shown.{shown}
use Rattle.fol_live.specs.Turns.{PassesOn}
use Rattle.fol_live.proofs.Answering.{Tells}
use Rattle.fol_live.proofs.Ending.{passes_on}
use Rattle.fol_live.proofs.Moved.{carried}
use Rattle.fol_live.proofs.world.World.pass.Goals as goal

pub invariant_of-self : goal.invariant_of-self
invariant_of-self c =
    let old : offers.Shown = c.deref_mut.result.now in
    let new : offers.Shown = c.pass-passed.new.self in
    let kept : IsKept (shown old) = rw c.deref_mut.ensures.value c.self.invariant.0 in
    let there : Tells c.deref.result.now = record { grid = c.keeps.ensures.grid; run = c.keeps.ensures.run; turns = c.keeps.ensures.in_turn } in
    let tells : Tells new = subst Tells c.deref.ensures there in
    ((passes_on old new c.args.by c.args.region c.pass-passed.result c.args.most kept tells c.pass-passed.ensures.few c.pass-passed.ensures.passed).keeps, λ never. absurd (cc))

pub returns : goal.returns
returns c =
    let old : offers.Shown = c.deref_mut.result.now in
    let new : offers.Shown = c.pass-passed.new.self in
    let kept : IsKept (shown old) = rw c.deref_mut.ensures.value c.self.invariant.0 in
    let there : Tells c.deref.result.now = record { grid = c.keeps.ensures.grid; run = c.keeps.ensures.run; turns = c.keeps.ensures.in_turn } in
    let tells : Tells new = subst Tells c.deref.ensures there in
    carried (λ a b. PassesOn a b c.args.by c.args.most) (ap shown c.deref_mut.ensures.value ∙ c.self.view_is) refl
    (passes_on old new c.args.by c.args.region c.pass-passed.result c.args.most kept tells c.pass-passed.ensures.few c.pass-passed.ensures.passed)
