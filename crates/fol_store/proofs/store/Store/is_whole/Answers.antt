use Rattle.std.proofs.Common.{◌≡◌, ◌&&◌, true, sym, ◌∙◌, ap}
use Rattle.fol_store.specs.contracts.store.Store.{the_view}
use Rattle.fol_bags.specs.declared.slot.Slot.{Slot}
use Rattle.fol_store.specs.Bag.{Bag}
use Rattle.fol_store.specs.Stock.{slot}
use Rattle.fol_bags.proofs.OpenBags.{here_open}
use Rattle.fol_store.proofs.BagSteps.{bag_slot}
use Rattle.fol_store.proofs.store.Store.is_whole.Goals as goal

pub slot-requires : goal.slot-requires
slot-requires c =
    let h : (slot (the_view c.self.inside) c.args.id).here ≡ true = sym (ap (λ (b : Bag). b.here) (bag_slot (the_view c.self.inside) c.args.id)) ∙ (rw (← c.self.view_is) at c.requires) in
    here_open c.self.inside.bags.items c.args.id h

read : (c : goal.After-is_whole) → c.slot.result.now ≡ slot (the_view c.self.inside) c.args.id
read c =
    let h : (slot (the_view c.self.inside) c.args.id).here ≡ true = sym (ap (λ (b : Bag). b.here) (bag_slot (the_view c.self.inside) c.args.id)) ∙ (rw (← c.self.view_is) at c.requires) in
    c.slot.ensures

pub returns : goal.returns
returns c =
    rw (← c.self.view_is) (c.is_whole.ensures ∙ ap (λ (b : Slot). b.listed && b.calm) (read c) ∙ sym (ap (λ (b : Bag). b.listed && b.calm) (bag_slot (the_view c.self.inside) c.args.id)))
