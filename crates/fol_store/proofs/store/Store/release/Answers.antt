use Rattle.std.proofs.Common.{◌≡◌, ◌-◌, length, arith, vec_len}
use Rattle.std.specs.Vec.{vec_capacity}
use Rattle.fol_store.specs.contracts.store.Store.{the_view}
use Rattle.fol_bags.specs.Slots.{slot_in}
use Rattle.fol_store.proofs.BagSteps.{with_bags}
use Rattle.fol_store.proofs.Releasing.{Released, released}
use Rattle.fol_store.proofs.store.Store.release.Goals as goal

pub release-requires-clause-list : goal.release-requires-clause-list
release-requires-clause-list c = (c.self.invariant.bags c.args.id).list

step : (c : goal.After-release) → Released (the_view c.self.inside) (with_bags (the_view c.self.inside) c.release.new.self.items (vec_capacity c.self.inside.arrivals - vec_len c.self.inside.arrivals) c.release.new.self.free)
step c =
    let long : length c.release.new.self.items ≡ length c.self.inside.bags.items = c.release.ensures.sets.len in
    released (the_view c.self.inside) c.release.new.self.items _ _ c.args.id (slot_in c.release.new.self.items c.args.id).body c.release.ensures.sets.slots c.release.ensures.things c.release.ensures.here
    (c.release.ensures.timely (c.self.invariant.bag_times c.args.id)) long (omega arith) (omega (arith, c.release.ensures.sets.free)) c.self.invariant

pub invariant_of-self : goal.invariant_of-self
invariant_of-self c = (step c).sound

pub returns-clause-draws : goal.returns-clause-draws
returns-clause-draws c = rw (← c.self.view_is) (step c).draws

pub returns-clause-bags : goal.returns-clause-bags
returns-clause-bags c = rw (← c.self.view_is) (step c).bags
