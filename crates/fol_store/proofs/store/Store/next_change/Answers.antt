use Rattle.std.proofs.Common.{◌≡◌, ◌-◌, true, length, refl, sym, ◌∙◌, ap, arith, vec_len}
use Rattle.std.specs.Vec.{vec_capacity}
use Rattle.fol_store.specs.contracts.store.Store.{the_view}
use Rattle.fol_bags.specs.declared.slot.Slot.{Slot}
use Rattle.fol_store.specs.Bag.{Bag}
use Rattle.fol_bags.specs.Slots.{slot_in}
use Rattle.fol_store.specs.Stock.{Stock, slot, bag_of}
use Rattle.fol_store.proofs.BagSteps.{OneStep, with_bags, one_step, one_kept, bag_slot}
use Rattle.fol_bags.proofs.OpenBags.{here_open}
use Rattle.fol_store.proofs.store.Store.next_change.Goals as goal

pub next_change-requires : goal.next_change-requires
next_change-requires c =
    let h : (slot (the_view c.self.inside) c.args.id).here ≡ true = sym (ap (λ (b : Bag). b.here) (bag_slot (the_view c.self.inside) c.args.id)) ∙ (rw (← c.self.view_is) at c.requires.here) in
    here_open c.self.inside.bags.items c.args.id h

-- the store afterwards
abbrev after : goal.After-next_change → Stock
after c = with_bags (the_view c.self.inside) c.next_change.new.bags.items (vec_capacity c.self.inside.arrivals - vec_len c.self.inside.arrivals) c.next_change.new.bags.free

-- the bag afterwards, and what contracts see of it
abbrev popped : goal.After-next_change → Slot
popped c = record (slot (the_view c.self.inside) c.args.id) { since = (slot_in c.next_change.new.bags.items c.args.id).since }

abbrev popped_bag : goal.After-next_change → Bag
popped_bag c = record (bag_of (the_view c.self.inside) c.args.id) { since = (slot_in c.next_change.new.bags.items c.args.id).since }

step : (c : goal.After-next_change) → OneStep (the_view c.self.inside) (after c) c.args.id (popped_bag c)
step c =
    let long : length c.next_change.new.bags.items ≡ length c.self.inside.bags.items = omega arith in
    one_step (the_view c.self.inside) c.next_change.new.bags.items _ _ c.args.id (popped c) c.next_change.ensures.sets.slots (popped_bag c) c.self.invariant (λ k. refl) long (c.self.invariant.bag_times c.args.id)
    (λ columns. one_kept (the_view c.self.inside) c.next_change.new.bags.items _ _ c.args.id (popped c) c.next_change.ensures.sets.slots c.self.invariant (record { here = refl; taken = refl; chunks = refl; list = refl; touched = refl; listed = λ o. o; calm = λ o. o }) columns)
    (ap (λ (b : Bag). let q : Bag = record b { since = (slot_in c.next_change.new.bags.items c.args.id).since } in q) (sym (bag_slot (the_view c.self.inside) c.args.id)))

pub invariant_of-self : goal.invariant_of-self
invariant_of-self c = (step c).sound

pub returns-clause-some : goal.returns-clause-some
unfolding bag_of
returns-clause-some c = rw (← c.self.view_is) c.next_change.ensures.some

pub returns-clause-none : goal.returns-clause-none
unfolding bag_of
returns-clause-none c = rw (← c.self.view_is) c.next_change.ensures.none

pub returns-clause-left : goal.returns-clause-left
unfolding bag_of
returns-clause-left c = c.next_change.ensures.left

pub returns-clause-bags : goal.returns-clause-bags
unfolding bag_of
returns-clause-bags c = rw (← c.self.view_is) (step c).bags

pub returns-clause-next : goal.returns-clause-next
returns-clause-next c = rw (← c.self.view_is) (step c).next

pub returns-clause-contents : goal.returns-clause-contents
returns-clause-contents c = rw (← c.self.view_is) (step c).contents

pub returns-clause-tasks : goal.returns-clause-tasks
returns-clause-tasks c = rw (← c.self.view_is) (step c).tasks
