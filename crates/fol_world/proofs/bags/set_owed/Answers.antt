use Rattle.std.proofs.Common.{◌≡◌, ◌+◌, ◌∷◌, ◌<◌, length, drop, get_or, ◌∙◌, refl, add-one, drop-cons}
use Rattle.fol_store.specs.Stock.{bag_of}
use Rattle.fol_world.proofs.BagSteps.{all_here}
use Rattle.fol_world.proofs.bags.set_owed.Goals as goal

pub loop-id-preserved : goal.loop-id-preserved
loop-id-preserved c =
    let i = c.loop-id.id-index in
    let ids = c.args.ids.now in
    let below : i < length ids = c.loop-id-test.true in
    let e : drop i ids ≡ get_or ids i 0 ∷ drop (i + 1) ids = rw (add-one, drop-cons ids i 0) refl in
    let inv = rw e at c.loop-id.invariant in
    rw c.set_owed.ensures.bags (
      inv.0,
      all_here (bag_of c.loop-id.store) (get_or ids i 0) c.args.n (drop (i + 1) ids) inv.1.1,
      record { flat = c.set_owed.ensures.contents ∙ inv.2.flat; jobs = c.set_owed.ensures.tasks ∙ inv.2.jobs },
      c.set_owed.ensures.next ∙ inv.3,
      c.set_owed.ensures.spare ∙ inv.4,
    )
