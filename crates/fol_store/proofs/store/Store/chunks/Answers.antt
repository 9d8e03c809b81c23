use Rattle.std.proofs.Common.{◌≡◌, true, sym, ◌∙◌, ap}
use Rattle.fol_store.specs.contracts.store.Store.{the_view}
use Rattle.fol_bags.specs.declared.slot.Slot.{Slot}
use Rattle.fol_store.specs.Bag.{Bag}
use Rattle.fol_store.specs.Stock.{slot, bag_of}
use Rattle.fol_bags.proofs.OpenBags.{here_open}
use Rattle.fol_store.proofs.BagSteps.{bag_slot}
use Rattle.fol_store.proofs.Stepping.{listed_here}
use Rattle.fol_store.proofs.store.Store.chunks.Goals as goal

pub slot-requires : goal.slot-requires
slot-requires c =
    let h : (slot (the_view c.self.inside) c.args.id).here ≡ true = sym (ap (λ (b : Bag). b.here) (bag_slot (the_view c.self.inside) c.args.id)) ∙ (rw (← c.self.view_is) at c.requires) in
    here_open c.self.inside.bags.items c.args.id h

pub returns : goal.returns
returns c =
    let h : (slot (the_view c.self.inside) c.args.id).here ≡ true = sym (ap (λ (b : Bag). b.here) (bag_slot (the_view c.self.inside) c.args.id)) ∙ (rw (← c.self.view_is) at c.requires) in
    let e : c.slot.result.now ≡ slot (the_view c.self.inside) c.args.id = c.slot.ensures in
    let list : c.slot.result.now.list ≡ (bag_of (the_view c.self.inside) c.args.id).chunks = ap (λ (b : Slot). b.list) e ∙ listed_here c.args.id (the_view c.self.inside) c.self.invariant h ∙ sym (ap (λ (b : Bag). b.chunks) (bag_slot (the_view c.self.inside) c.args.id)) in
    let shown : c.slot.result.now.list ≡ (bag_of c.args.self.now c.args.id).chunks = rw (← c.self.view_is) list in
    rw shown at c.as_slice.ensures
