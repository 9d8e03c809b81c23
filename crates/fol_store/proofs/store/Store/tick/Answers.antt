use Rattle.std.proofs.Common.{◌≡◌, true, refl, sym, ◌∙◌, ap}
use Rattle.fol_store.specs.contracts.store.Store.{the_view}
use Rattle.fol_bags.specs.declared.slot.Slot.{Slot}
use Rattle.fol_store.specs.Bag.{Bag}
use Rattle.fol_store.specs.Stock.{slot, shown}
use Rattle.fol_bags.specs.Things.{IsTimely}
use Rattle.fol_bags.proofs.OpenBags.{here_open}
use Rattle.fol_store.proofs.BagSteps.{bag_slot}
use Rattle.fol_store.proofs.store.Store.tick.Goals as goal

pub slot-requires : goal.slot-requires
slot-requires c =
    let h : (slot (the_view c.self.inside) c.args.id).here ≡ true = sym (ap (λ (b : Bag). b.here) (bag_slot (the_view c.self.inside) c.args.id)) ∙ (rw (← c.self.view_is) at c.requires) in
    here_open c.self.inside.bags.items c.args.id h

read : (c : goal.After-slot) → c.slot.result.now ≡ slot (the_view c.self.inside) c.args.id
read c =
    let h : (slot (the_view c.self.inside) c.args.id).here ≡ true = sym (ap (λ (b : Bag). b.here) (bag_slot (the_view c.self.inside) c.args.id)) ∙ (rw (← c.self.view_is) at c.requires) in
    c.slot.ensures

pub returns-clause-value : goal.returns-clause-value
returns-clause-value c =
    let h : (slot (the_view c.self.inside) c.args.id).here ≡ true = sym (ap (λ (b : Bag). b.here) (bag_slot (the_view c.self.inside) c.args.id)) ∙ (rw (← c.self.view_is) at c.requires) in
    rw (← c.self.view_is) (ap (λ (b : Slot). b.body.tick) (read c) ∙ shown_tick h ∙ sym (ap (λ (b : Bag). b.tick) (bag_slot (the_view c.self.inside) c.args.id)))
  where
    shown_tick : (slot (the_view c.self.inside) c.args.id).here ≡ true → (slot (the_view c.self.inside) c.args.id).body.tick ≡ (shown (slot (the_view c.self.inside) c.args.id)).tick
    shown_tick e = rw e refl

pub returns-clause-bound : goal.returns-clause-bound
returns-clause-bound c =
    let e : c.slot.result.now ≡ slot (the_view c.self.inside) c.args.id = read c in
    let b : IsTimely (slot (the_view c.self.inside) c.args.id).body = c.self.invariant.bag_times c.args.id in
    rw e b.tick
