use Rattle.std.proofs.Common.{◌≡◌, ◌+◌, ◌-◌, length, arith, vec_len, sym}
use Rattle.std.specs.Vec.{vec_capacity}
use Rattle.fol_store.specs.contracts.store.Store.{the_view}
use Rattle.fol_store.specs.Bag.{new_bag}
use Rattle.fol_bags.specs.Slots.{slot_in}
use Rattle.fol_store.specs.Stock.{Stock, next_of}
use Rattle.fol_store.proofs.BagSteps.{with_bags}
use Rattle.fol_store.proofs.Opening.{OpenStep, open_step}
use Rattle.fol_store.proofs.store.Store.open.Goals as goal

abbrev after : goal.After-open → Stock
after c = with_bags (the_view c.self.inside) c.open.new.self.items (vec_capacity c.self.inside.arrivals - vec_len c.self.inside.arrivals) c.open.new.self.free

step : (c : goal.After-open) → OpenStep (the_view c.self.inside) (after c) c.args.id (new_bag c.args.tick c.args.owed)
unfolding next_of
step c =
    let next : c.args.id ≡ length c.self.inside.bags.items = rw (← c.self.view_is) at c.requires.next in
    let last : length c.self.inside.bags.items ≡ c.args.id = sym next in
    let long : length c.open.new.self.items ≡ c.args.id + 1 = omega arith in
    open_step (the_view c.self.inside) c.open.new.self.items _ _ c.args.id c.args.tick c.args.owed (slot_in c.open.new.self.items c.args.id).body
    (rw last at c.open.ensures.slots) (rw last at c.open.ensures.body) (rw last at c.open.ensures.tasks) next long c.requires.tick c.self.invariant

pub invariant_of-self : goal.invariant_of-self
invariant_of-self c = (step c).sound

pub returns-clause-bags : goal.returns-clause-bags
returns-clause-bags c = rw (← c.self.view_is) (step c).bags

pub returns-clause-next : goal.returns-clause-next
returns-clause-next c = (step c).next

pub returns-clause-contents : goal.returns-clause-contents
returns-clause-contents c = rw (← c.self.view_is) (step c).contents

pub returns-clause-tasks : goal.returns-clause-tasks
returns-clause-tasks c = rw (← c.self.view_is) (step c).tasks
