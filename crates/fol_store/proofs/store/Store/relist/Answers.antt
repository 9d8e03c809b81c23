use Rattle.std.proofs.Common.{◌≡◌, ◌-◌, true, false, sym, ◌∙◌, ap, arith, vec_len}
use Rattle.std.specs.Vec.{vec_capacity}
use Rattle.fol_store.specs.contracts.store.Store.{the_view}
use Rattle.fol_store.specs.Bag.{Bag}
use Rattle.fol_store.specs.Stock.{slot, bag_of}
use Rattle.fol_store.proofs.BagSteps.{with_bags, bag_slot}
use Rattle.fol_bags.proofs.OpenBags.{here_open}
use Rattle.fol_store.proofs.Settling.{Settled, relisted}
use Rattle.fol_store.proofs.store.Store.relist.Goals as goal

pub relist-requires : goal.relist-requires
relist-requires c =
    let h : (slot (the_view c.self.inside) c.args.id).here ≡ true = sym (ap (λ (b : Bag). b.here) (bag_slot (the_view c.self.inside) c.args.id)) ∙ (rw (← c.self.view_is) at c.requires.here) in
    here_open c.self.inside.bags.items c.args.id h

step : (c : goal.After-relist) → Settled (the_view c.self.inside) (with_bags (the_view c.self.inside) c.relist.new.bags.items (vec_capacity c.self.inside.arrivals - vec_len c.self.inside.arrivals) c.relist.new.bags.free) c.args.id (let b : Bag = record (bag_of (the_view c.self.inside) c.args.id) { chunks = c.args.listed.items } in b)
unfolding bag_of
step c =
    let here : (slot (the_view c.self.inside) c.args.id).here ≡ true = rw (← c.self.view_is) at c.requires.here in
    let not_listed : (slot (the_view c.self.inside) c.args.id).listed ≡ false = rw (← c.self.view_is) at c.requires.not_listed in
    relisted (the_view c.self.inside) c.relist.new.bags.items _ _ c.args.id c.args.listed.items c.relist.ensures.sets.slots here not_listed
    (rw (← c.self.view_is, ← c.requires.listed) at c.requires.gone) (omega arith) (omega arith) (omega (arith, c.relist.ensures.sets.len, c.relist.ensures.sets.free)) c.self.invariant

pub invariant_of-self : goal.invariant_of-self
invariant_of-self c = (step c).sound

pub returns-clause-same : goal.returns-clause-same
returns-clause-same c = rw (← c.self.view_is) (step c).same

pub returns-clause-bags : goal.returns-clause-bags
returns-clause-bags c = rw (← c.self.view_is, ← c.requires.listed) (step c).bags
