use Rattle.std.proofs.Common.{◌≡◌, ◌-◌, [], true, false, sym, ◌∙◌, ap, arith, vec_len}
use Rattle.std.specs.Vec.{vec_capacity}
use Rattle.fol_store.specs.contracts.store.Store.{the_view}
use Rattle.fol_bags.specs.declared.slot.Slot.{Slot}
use Rattle.fol_store.specs.Bag.{Bag}
use Rattle.fol_store.specs.Stock.{Stock, slot, bag_of}
use Rattle.fol_store.proofs.BagSteps.{with_bags, bag_slot, slot_here}
use Rattle.fol_bags.proofs.OpenBags.{here_open}
use Rattle.fol_store.proofs.Settling.{Settled}
use Rattle.fol_store.proofs.Noting.{reopened_step, reopened_is}
use Rattle.fol_store.proofs.store.Store.reopen.Goals as goal

pub reopen-requires : goal.reopen-requires
reopen-requires c =
    let h : (slot (the_view c.self.inside) c.args.id).here ≡ true = sym (ap (λ (b : Bag). b.here) (bag_slot (the_view c.self.inside) c.args.id)) ∙ (rw (← c.self.view_is) at c.requires.here) in
    here_open c.self.inside.bags.items c.args.id h

here : (c : goal.After-reopen) → (slot (the_view c.self.inside) c.args.id).here ≡ true
unfolding bag_of
here c = rw (← c.self.view_is) at c.requires.here

listed : (c : goal.After-reopen) → (slot (the_view c.self.inside) c.args.id).listed ≡ true
unfolding bag_of
listed c = rw (← c.self.view_is) at c.requires.listed

-- the store afterwards
abbrev after : goal.After-reopen → Stock
after c = with_bags (the_view c.self.inside) c.reopen.new.bags.items (vec_capacity c.self.inside.arrivals - vec_len c.self.inside.arrivals) c.reopen.new.bags.free

step : (c : goal.After-reopen) → Settled (the_view c.self.inside) (after c) c.args.id (let b : Bag = record (bag_of (the_view c.self.inside) c.args.id) { listed = false } in b)
step c = reopened_step (the_view c.self.inside) c.reopen.new.bags.items _ _ c.args.id c.reopen.ensures.sets.slots (here c) (listed c) c.self.invariant (omega arith) (omega arith) (omega (arith, c.reopen.ensures.sets.len, c.reopen.ensures.sets.free))

pub invariant_of-self : goal.invariant_of-self
invariant_of-self c = (step c).sound

pub returns-clause-same : goal.returns-clause-same
returns-clause-same c = rw (← c.self.view_is) (step c).same

pub returns-clause-bags : goal.returns-clause-bags
returns-clause-bags c = rw (← c.self.view_is) (step c).bags

pub returns-clause-reopened : goal.returns-clause-reopened
unfolding bag_of
returns-clause-reopened c =
    let none : (the_view c.self.inside).arrivals ≡ [] = rw (← c.self.view_is) at c.requires.empty in
    let chunks : (slot (after c) c.args.id).chunks ≡ (slot (the_view c.self.inside) c.args.id).chunks =
    ap (λ (b : Slot). b.chunks) (slot_here (the_view c.self.inside) c.reopen.new.bags.items (vec_capacity c.self.inside.arrivals - vec_len c.self.inside.arrivals) c.reopen.new.bags.free c.args.id _ c.reopen.ensures.sets.slots) in
    rw (c.reopen.ensures.touched, chunks) (reopened_is (the_view c.self.inside) c.reopen.new.bags.items _ _ c.args.id c.reopen.ensures.sets.slots (here c) (listed c) c.self.invariant none)
