use Rattle.std.proofs.Common.{◌≡◌, ◌-◌, true, length, refl, sym, ◌∙◌, ap, arith, vec_len}
use Rattle.std.specs.Vec.{vec_capacity}
use Rattle.fol_store.specs.contracts.store.Store.{the_view}
use Rattle.fol_bags.specs.declared.slot.Slot.{Slot}
use Rattle.fol_store.specs.Bag.{Bag}
use Rattle.fol_store.specs.Stock.{Stock, slot, shown, bag_of}
use Rattle.fol_store.proofs.BagSteps.{OneStep, with_bags, one_step, one_kept, bag_slot}
use Rattle.fol_bags.proofs.OpenBags.{here_open}
use Rattle.fol_store.proofs.store.Store.set_owed.Goals as goal

pub set_owed-requires : goal.set_owed-requires
set_owed-requires c =
    let h : (slot (the_view c.self.inside) c.args.id).here ≡ true = sym (ap (λ (b : Bag). b.here) (bag_slot (the_view c.self.inside) c.args.id)) ∙ (rw (← c.self.view_is) at c.requires.here) in
    here_open c.self.inside.bags.items c.args.id h

-- the store afterwards
abbrev after : goal.After-set_owed → Stock
after c = with_bags (the_view c.self.inside) c.set_owed.new.bags.items (vec_capacity c.self.inside.arrivals - vec_len c.self.inside.arrivals) c.set_owed.new.bags.free

step : (c : goal.After-set_owed) → OneStep (the_view c.self.inside) (after c) c.args.id (let b : Bag = record (bag_of (the_view c.self.inside) c.args.id) { owed = c.args.owed } in b)
step c =
    let h : (slot (the_view c.self.inside) c.args.id).here ≡ true = sym (ap (λ (b : Bag). b.here) (bag_slot (the_view c.self.inside) c.args.id)) ∙ (rw (← c.self.view_is) at c.requires.here) in
    let long : length c.set_owed.new.bags.items ≡ length c.self.inside.bags.items = omega arith in
    one_step (the_view c.self.inside) c.set_owed.new.bags.items _ _ c.args.id (let d : Slot = record (slot (the_view c.self.inside) c.args.id) { body = record (slot (the_view c.self.inside) c.args.id).body { owed = c.args.owed } } in d) c.set_owed.ensures.sets.slots (let b : Bag = record (bag_of (the_view c.self.inside) c.args.id) { owed = c.args.owed } in b) c.self.invariant (λ k. refl) long (record { tick = (c.self.invariant.bag_times c.args.id).tick; in_time = (c.self.invariant.bag_times c.args.id).in_time }) (λ columns. one_kept (the_view c.self.inside) c.set_owed.new.bags.items _ _ c.args.id (let d : Slot = record (slot (the_view c.self.inside) c.args.id) { body = record (slot (the_view c.self.inside) c.args.id).body { owed = c.args.owed } } in d) c.set_owed.ensures.sets.slots c.self.invariant (record { here = refl; taken = refl; chunks = refl; list = refl; touched = refl; listed = λ o. o; calm = λ o. o }) columns) (shown_owed h)
  where
    shown_owed : (slot (the_view c.self.inside) c.args.id).here ≡ true → shown (let d : Slot = record (slot (the_view c.self.inside) c.args.id) { body = record (slot (the_view c.self.inside) c.args.id).body { owed = c.args.owed } } in d) ≡ (let b : Bag = record (bag_of (the_view c.self.inside) c.args.id) { owed = c.args.owed } in b)
    shown_owed e = rw (bag_slot (the_view c.self.inside) c.args.id, e) refl

pub invariant_of-self : goal.invariant_of-self
invariant_of-self c = (step c).sound

pub returns-clause-bags : goal.returns-clause-bags
returns-clause-bags c = rw (← c.self.view_is) (step c).bags

pub returns-clause-next : goal.returns-clause-next
returns-clause-next c = rw (← c.self.view_is) (step c).next

pub returns-clause-contents : goal.returns-clause-contents
returns-clause-contents c = rw (← c.self.view_is) (step c).contents

pub returns-clause-tasks : goal.returns-clause-tasks
returns-clause-tasks c = rw (← c.self.view_is) (step c).tasks
