use Rattle.std.proofs.Common.{◌≡◌, ◌-◌, length, refl, sym, ap, arith, vec_len}
use Rattle.std.specs.Vec.{vec_capacity}
use Rattle.fol_store.specs.contracts.store.Store.{the_view}
use Rattle.fol_bags.specs.declared.slot.Slot.{Slot}
use Rattle.fol_store.specs.Bag.{Bag}
use Rattle.fol_bags.specs.Slots.{slot_in}
use Rattle.fol_store.specs.Stock.{Stock, slot, bag_of}
use Rattle.fol_store.proofs.BagSteps.{OneStep, with_bags, one_step, one_kept, bag_slot}
use Rattle.fol_store.proofs.Relisting.{away_unlisted}
use Rattle.fol_store.proofs.store.Store.note_change.Goals as goal

pub note_change-requires : goal.note_change-requires
unfolding bag_of
note_change-requires c =
    rw (← c.self.view_is) at c.requires.known

-- the store afterwards
abbrev after : goal.After-note_change → Stock
after c = with_bags (the_view c.self.inside) c.note_change.new.bags.items (vec_capacity c.self.inside.arrivals - vec_len c.self.inside.arrivals) c.note_change.new.bags.free

-- the bag afterwards, and what contracts see of it
abbrev marked : goal.After-note_change → Slot
marked c = record (slot (the_view c.self.inside) c.args.id) { listed = (slot_in c.note_change.new.bags.items c.args.id).listed; since = (slot_in c.note_change.new.bags.items c.args.id).since }

abbrev marked_bag : goal.After-note_change → Bag
marked_bag c = record (bag_of (the_view c.self.inside) c.args.id) { listed = (slot_in c.note_change.new.bags.items c.args.id).listed; since = (slot_in c.note_change.new.bags.items c.args.id).since }

step : (c : goal.After-note_change) → OneStep (the_view c.self.inside) (after c) c.args.id (marked_bag c)
step c =
    let long : length c.note_change.new.bags.items ≡ length c.self.inside.bags.items = omega arith in
    one_step (the_view c.self.inside) c.note_change.new.bags.items _ _ c.args.id (marked c) c.note_change.ensures.sets.slots (marked_bag c) c.self.invariant (λ k. refl) long (c.self.invariant.bag_times c.args.id)
    (λ columns. one_kept (the_view c.self.inside) c.note_change.new.bags.items _ _ c.args.id (marked c) c.note_change.ensures.sets.slots c.self.invariant (record { here = refl; taken = refl; chunks = refl; list = refl; touched = refl; listed = λ o. (c.note_change.ensures.noted o).0; calm = λ o. o }) columns)
    (ap (λ (b : Bag). let q : Bag = record b { listed = (slot_in c.note_change.new.bags.items c.args.id).listed; since = (slot_in c.note_change.new.bags.items c.args.id).since } in q) (sym (bag_slot (the_view c.self.inside) c.args.id)))

pub invariant_of-self : goal.invariant_of-self
invariant_of-self c = (step c).sound

pub returns-clause-noted : goal.returns-clause-noted
unfolding bag_of
returns-clause-noted c = rw (← c.self.view_is) c.note_change.ensures.noted

pub returns-clause-here : goal.returns-clause-here
unfolding bag_of
returns-clause-here c = rw (← c.self.view_is) (λ free. c.note_change.ensures.unlisted (away_unlisted (the_view c.self.inside) c.args.id c.self.invariant (rw (← c.self.view_is) at c.requires.away) free))

pub returns-clause-bags : goal.returns-clause-bags
unfolding bag_of
returns-clause-bags c = rw (← c.self.view_is) (step c).bags

pub returns-clause-next : goal.returns-clause-next
returns-clause-next c = rw (← c.self.view_is) (step c).next

pub returns-clause-contents : goal.returns-clause-contents
returns-clause-contents c = rw (← c.self.view_is) (step c).contents

pub returns-clause-tasks : goal.returns-clause-tasks
returns-clause-tasks c = rw (← c.self.view_is) (step c).tasks
