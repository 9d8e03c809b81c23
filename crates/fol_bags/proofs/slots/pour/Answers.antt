use Rattle.std.proofs.Common.{refl, ◌∙◌, ap}
use Rattle.fol_bags.specs.declared.slot.Slot.{Slot}
use Rattle.fol_bags.specs.Things.{things}
use Rattle.fol_bags.proofs.Empty.{loses_nothing, gains_nothing, things_none}
use Rattle.fol_bags.proofs.slots.pour.Goals as goal

pub returns-in-None-clause-loses : goal.returns-in-None-clause-loses
returns-in-None-clause-loses c = loses_nothing c.args.chunks.now c.args.from.now.body (λ k. ap (λ (b : Slot). things b.body k) (c.in-None.ensures.none refl) ∙ things_none k)

pub returns-in-None-clause-gains : goal.returns-in-None-clause-gains
returns-in-None-clause-gains c = gains_nothing c.args.chunks.now c.args.from.now.body _ (λ k. ap (λ (b : Slot). things b.body k) (c.in-None.ensures.none refl) ∙ things_none k)
