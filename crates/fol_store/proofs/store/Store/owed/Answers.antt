use Rattle.std.proofs.Common.{◌≡◌, true, refl, sym, ◌∙◌, ap}
use Rattle.fol_store.specs.contracts.store.Store.{the_view}
use Rattle.fol_bags.specs.declared.slot.Slot.{Slot}
use Rattle.fol_store.specs.Bag.{Bag}
use Rattle.fol_store.specs.Stock.{slot, shown}
use Rattle.fol_bags.proofs.OpenBags.{here_open}
use Rattle.fol_store.proofs.BagSteps.{bag_slot}
use Rattle.fol_store.proofs.store.Store.owed.Goals as goal

pub slot-requires : goal.slot-requires
slot-requires c =
    let h : (slot (the_view c.self.inside) c.args.id).here ≡ true = sym (ap (λ (b : Bag). b.here) (bag_slot (the_view c.self.inside) c.args.id)) ∙ (rw (← c.self.view_is) at c.requires) in
    here_open c.self.inside.bags.items c.args.id h

read : (c : goal.After-slot) → c.slot.result.now ≡ slot (the_view c.self.inside) c.args.id
read c =
    let h : (slot (the_view c.self.inside) c.args.id).here ≡ true = sym (ap (λ (b : Bag). b.here) (bag_slot (the_view c.self.inside) c.args.id)) ∙ (rw (← c.self.view_is) at c.requires) in
    c.slot.ensures

pub returns : goal.returns
returns c =
    let h : (slot (the_view c.self.inside) c.args.id).here ≡ true = sym (ap (λ (b : Bag). b.here) (bag_slot (the_view c.self.inside) c.args.id)) ∙ (rw (← c.self.view_is) at c.requires) in
    rw (← c.self.view_is) (ap (λ (b : Slot). b.body.owed) (read c) ∙ shown_owed h ∙ sym (ap (λ (b : Bag). b.owed) (bag_slot (the_view c.self.inside) c.args.id)))
  where
    shown_owed : (slot (the_view c.self.inside) c.args.id).here ≡ true → (slot (the_view c.self.inside) c.args.id).body.owed ≡ (shown (slot (the_view c.self.inside) c.args.id)).owed
    shown_owed e = rw e refl
