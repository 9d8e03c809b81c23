use Rattle.std.proofs.Common.{◌≡◌, ◌-◌, true, false, length, refl, sym, ap, arith, vec_len}
use Rattle.std.specs.Vec.{vec_capacity}
use Rattle.fol_store.specs.contracts.store.Store.{the_view}
use Rattle.fol_bags.specs.declared.slot.Slot.{Slot}
use Rattle.fol_store.specs.Bag.{Bag}
use Rattle.fol_store.specs.Stock.{Stock, slot, bag_of}
use Rattle.fol_store.proofs.BagSteps.{OneStep, with_bags, one_step, one_kept, bag_slot}
use Rattle.fol_store.proofs.store.Store.unsettle.Goals as goal

pub unlist-requires : goal.unlist-requires
unfolding bag_of
unlist-requires c =
    rw (← c.self.view_is) at c.requires.known

-- the store afterwards
abbrev after : goal.After-unlist → Stock
after c = with_bags (the_view c.self.inside) c.unlist.new.bags.items (vec_capacity c.self.inside.arrivals - vec_len c.self.inside.arrivals) c.unlist.new.bags.free

step : (c : goal.After-unlist) → OneStep (the_view c.self.inside) (after c) c.args.id (let b : Bag = record (bag_of (the_view c.self.inside) c.args.id) { listed = false } in b)
step c =
    let long : length c.unlist.new.bags.items ≡ length c.self.inside.bags.items = omega arith in
    one_step (the_view c.self.inside) c.unlist.new.bags.items _ _ c.args.id (let d : Slot = record (slot (the_view c.self.inside) c.args.id) { listed = false } in d) c.unlist.ensures.sets.slots (let b : Bag = record (bag_of (the_view c.self.inside) c.args.id) { listed = false } in b) c.self.invariant (λ k. refl) long (c.self.invariant.bag_times c.args.id) (λ columns. one_kept (the_view c.self.inside) c.unlist.new.bags.items _ _ c.args.id (let d : Slot = record (slot (the_view c.self.inside) c.args.id) { listed = false } in d) c.unlist.ensures.sets.slots c.self.invariant (record { here = refl; taken = refl; chunks = refl; list = refl; touched = refl; listed = λ o. (let z : true ≡ false = sym o in cc); calm = λ o. o }) columns) (ap (λ (b : Bag). let q : Bag = record b { listed = false } in q) (sym (bag_slot (the_view c.self.inside) c.args.id)))

pub invariant_of-self : goal.invariant_of-self
invariant_of-self c = (step c).sound

pub returns-clause-bags : goal.returns-clause-bags
returns-clause-bags c = rw (← c.self.view_is) (step c).bags

pub returns-clause-next : goal.returns-clause-next
returns-clause-next c = rw (← c.self.view_is) (step c).next

pub returns-clause-contents : goal.returns-clause-contents
returns-clause-contents c = rw (← c.self.view_is) (step c).contents

pub returns-clause-tasks : goal.returns-clause-tasks
returns-clause-tasks c = rw (← c.self.view_is) (step c).tasks
