use Rattle.std.proofs.Common.{◌≡◌, ◌+◌, ◌∷◌, ◌<◌, length, drop, get_or, ◌∙◌, refl, arith, add-one, drop-cons}
use Rattle.fol_regions.specs.declared.change.MergePair.{MergePair}
use Rattle.fol_store.specs.Stock.{bag_of}
use Rattle.fol_world.specs.Bags.{JoinsOne}
use Rattle.fol_world.proofs.UnitedBags.{can_join_next, joins_one_order}
use Rattle.fol_world.proofs.bags.join.Goals as goal

pub loop-pair-preserved : goal.loop-pair-preserved
loop-pair-preserved c =
    let i = c.loop-pair.pair-index in
    let ms = c.args.merges.now in
    let below : i < length ms = c.loop-pair-test.true in
    let m : MergePair = get_or ms i (record { «from» = 0; into = 0 }) in
    let e : drop i ms ≡ m ∷ drop (i + 1) ms = rw (add-one, drop-cons ms i (record { «from» = 0; into = 0 })) refl in
    let inv = rw e at c.loop-pair.invariant in
    let one : JoinsOne m (bag_of c.loop-pair.store) (bag_of c.unite.new.self) = record { gone = c.unite.ensures.gone; own = c.unite.ensures.own; others = c.unite.ensures.others } in (
      (λ h j. inv.0 h (bag_of c.unite.new.self, one, j)),
      can_join_next m (drop (i + 1) ms) (bag_of c.loop-pair.store) (bag_of c.unite.new.self) inv.1 one,
      joins_one_order m (bag_of c.loop-pair.store) (bag_of c.unite.new.self) inv.2 one,
      record { flat = c.unite.ensures.contents ∙ inv.3.flat; jobs = c.unite.ensures.tasks ∙ inv.3.jobs },
      c.unite.ensures.next ∙ inv.4,
      omega (arith, inv.5, c.unite.ensures.spare),
      omega (arith, inv.6, c.unite.ensures.slots),
    )
