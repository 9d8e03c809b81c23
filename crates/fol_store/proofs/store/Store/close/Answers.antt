use Rattle.std.proofs.Common.{◌≡◌, ◌-◌, true, length, refl, sym, ◌∙◌, ap, arith, vec_len}
use Rattle.std.specs.Vec.{vec_capacity}
use Rattle.fol_store.specs.contracts.store.Store.{the_view}
use Rattle.fol_bags.specs.declared.slot.Slot.{Slot}
use Rattle.fol_store.specs.Bag.{Bag, no_bag}
use Rattle.fol_store.specs.Stock.{Stock, slot}
use Rattle.fol_bags.specs.Slots.{no_slot, slot_in}
use Rattle.fol_store.proofs.BagSteps.{OneStep, with_bags, one_step, closed_bag, bag_slot}
use Rattle.fol_bags.proofs.OpenBags.{here_open}
use Rattle.fol_store.proofs.store.Store.close.Goals as goal

pub close-requires : goal.close-requires
close-requires c =
    let h : (slot (the_view c.self.inside) c.args.id).here ≡ true = sym (ap (λ (b : Bag). b.here) (bag_slot (the_view c.self.inside) c.args.id)) ∙ (rw (← c.self.view_is) at c.requires.here) in
    here_open c.self.inside.bags.items c.args.id h

-- the store afterwards
abbrev after : goal.After-close → Stock
after c = with_bags (the_view c.self.inside) c.close.new.bags.items (vec_capacity c.self.inside.arrivals - vec_len c.self.inside.arrivals) c.close.new.bags.free

step : (c : goal.After-close) → OneStep (the_view c.self.inside) (after c) c.args.id (no_bag)
step c =
    let long : length c.close.new.bags.items ≡ length c.self.inside.bags.items = omega arith in
    one_step (the_view c.self.inside) c.close.new.bags.items _ _ c.args.id (let d : Slot = record no_slot { body = (slot_in c.close.new.bags.items c.args.id).body } in d) c.close.ensures.sets.slots (no_bag) c.self.invariant c.close.ensures.things long (c.close.ensures.timely (c.self.invariant.bag_times c.args.id)) (λ columns. closed_bag (after c) c.args.id _ refl refl refl refl) refl

pub invariant_of-self : goal.invariant_of-self
invariant_of-self c = (step c).sound

pub returns-clause-bags : goal.returns-clause-bags
returns-clause-bags c = rw (← c.self.view_is) (step c).bags

pub returns-clause-next : goal.returns-clause-next
returns-clause-next c = rw (← c.self.view_is) (step c).next

pub returns-clause-contents : goal.returns-clause-contents
returns-clause-contents c = rw (← c.self.view_is) (step c).contents

pub returns-clause-tasks : goal.returns-clause-tasks
returns-clause-tasks c = rw (← c.self.view_is) (step c).tasks
