use Rattle.std.proofs.Common.{◌≡◌, ◌≤◌, ◌+◌, ◌^◌, true, sym, ◌∙◌, ap, arith}
use Rattle.std.specs.Prelude.{nat_le, if◌then◌else◌}
use Rattle.fol_queues.specs.Waiting.{due_count, len_of}
use Rattle.fol_store.specs.contracts.store.Store.{the_view}
use Rattle.fol_bags.specs.declared.slot.Slot.{Slot}
use Rattle.fol_store.specs.Bag.{Bag}
use Rattle.fol_store.specs.Stock.{slot, due_by, waiting_of}
use Rattle.fol_bags.specs.Things.{IsTimely}
use Rattle.fol_bags.proofs.OpenBags.{here_open}
use Rattle.fol_store.proofs.BagSteps.{bag_slot}
use Rattle.fol_store.proofs.store.Store.most_due.Goals as goal

pub slot-slot-requires : goal.slot-slot-requires
slot-slot-requires c =
    let h : (slot (the_view c.self.inside) c.args.id).here ≡ true = sym (ap (λ (b : Bag). b.here) (bag_slot (the_view c.self.inside) c.args.id)) ∙ (rw (← c.self.view_is) at c.requires) in
    here_open c.self.inside.bags.items c.args.id h

pub overflow_add-slot : goal.overflow_add-slot
overflow_add-slot c =
    let h : (slot (the_view c.self.inside) c.args.id).here ≡ true = sym (ap (λ (b : Bag). b.here) (bag_slot (the_view c.self.inside) c.args.id)) ∙ (rw (← c.self.view_is) at c.requires) in
    let e : c.slot-slot.result.now ≡ slot (the_view c.self.inside) c.args.id = c.slot-slot.ensures in
    let timely : IsTimely (slot (the_view c.self.inside) c.args.id).body = c.self.invariant.bag_times c.args.id in
    let small : c.slot-slot.result.now.body.tick ≤ 2 ^ 62 = rw e timely.tick in
    omega arith

pub returns-clause-value : goal.returns-clause-value
unfolding due_by waiting_of
returns-clause-value c =
    rw (← c.self.view_is) (c.due_at_most.ensures.value ∙ ap (λ (b : Slot). if nat_le (len_of b.body.queues) 256 then len_of b.body.queues else due_count (b.body.tick + 1) b.body.queues) c.slot-slot.ensures)

pub returns-clause-most : goal.returns-clause-most
unfolding due_by
returns-clause-most c =
    let same : due_count (c.slot-slot.result.now.body.tick + 1) c.slot-slot.result.now.body.queues ≡ due_count ((slot (the_view c.self.inside) c.args.id).body.tick + 1) (slot (the_view c.self.inside) c.args.id).body.queues = ap (λ (b : Slot). due_count (b.body.tick + 1) b.body.queues) c.slot-slot.ensures in
    rw (← c.self.view_is) (omega (arith, sym same, c.due_at_most.ensures.most))
