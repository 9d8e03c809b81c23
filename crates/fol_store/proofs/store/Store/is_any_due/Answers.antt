use Rattle.std.proofs.Common.{◌≡◌, ◌≤◌, ◌+◌, ◌^◌, true, sym, ◌∙◌, ap, arith}
use Rattle.std.specs.Prelude.{nat_lt}
use Rattle.fol_queues.specs.Waiting.{due_count}
use Rattle.fol_store.specs.contracts.store.Store.{the_view}
use Rattle.fol_bags.specs.declared.slot.Slot.{Slot}
use Rattle.fol_store.specs.Bag.{Bag}
use Rattle.fol_store.specs.Stock.{slot, due_by}
use Rattle.fol_bags.specs.Things.{IsTimely}
use Rattle.fol_bags.proofs.OpenBags.{here_open}
use Rattle.fol_store.proofs.BagSteps.{bag_slot}
use Rattle.fol_store.proofs.store.Store.is_any_due.Goals as goal

pub slot-slot-requires : goal.slot-slot-requires
slot-slot-requires c =
    let h : (slot (the_view c.self.inside) c.args.id).here ≡ true = sym (ap (λ (b : Bag). b.here) (bag_slot (the_view c.self.inside) c.args.id)) ∙ (rw (← c.self.view_is) at c.requires) in
    here_open c.self.inside.bags.items c.args.id h

pub overflow_add-slot : goal.overflow_add-slot
overflow_add-slot c =
    let h : (slot (the_view c.self.inside) c.args.id).here ≡ true = sym (ap (λ (b : Bag). b.here) (bag_slot (the_view c.self.inside) c.args.id)) ∙ (rw (← c.self.view_is) at c.requires) in
    let e : c.slot-slot.result.now ≡ slot (the_view c.self.inside) c.args.id = c.slot-slot.ensures in
    let timely : IsTimely (slot (the_view c.self.inside) c.args.id).body = c.self.invariant.bag_times c.args.id in
    let small : c.slot-slot.result.now.body.tick ≤ 2 ^ 62 = rw e timely.tick in
    omega arith

pub returns : goal.returns
unfolding due_by
returns c =
    let h : (slot (the_view c.self.inside) c.args.id).here ≡ true = sym (ap (λ (b : Bag). b.here) (bag_slot (the_view c.self.inside) c.args.id)) ∙ (rw (← c.self.view_is) at c.requires) in
    let e : c.slot-slot.result.now ≡ slot (the_view c.self.inside) c.args.id = c.slot-slot.ensures in
    rw (← c.self.view_is) (c.is_any_due.ensures ∙ ap (λ (b : Slot). nat_lt 0 (due_count (b.body.tick + c.args.ticks) b.body.queues)) e)
