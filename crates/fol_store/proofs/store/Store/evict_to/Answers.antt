use Rattle.std.proofs.Common.{◌≡◌, ◌-◌, true, false, [], refl, sym, ◌∙◌, ap, arith, vec_len, Some, None}
use Rattle.std.specs.Vec.{vec_capacity}
use Rattle.fol_store.specs.contracts.store.Store.{the_view}
use Rattle.fol_bags.specs.declared.places.Place.{Place}
use Rattle.fol_store.specs.Bag.{Bag}
use Rattle.fol_bags.specs.Slots.{slot_in, spot_in}
use Rattle.fol_store.specs.Stock.{slot, in_bag, in_spot, bag_of}
use Rattle.fol_store.proofs.BagSteps.{bag_slot}
use Rattle.fol_bags.proofs.OpenBags.{here_open}
use Rattle.std.specs.List.Sorted.{IsStrictlySortedBy}
use Rattle.fol_keyed.proofs.Places.{same_chunk-self}
use Rattle.fol_store.proofs.Drawing.{with_parts, loses_none, gains_none}
use Rattle.fol_store.proofs.Spotting.{Spotted, from_spot, into_spot}
use Rattle.fol_store.proofs.Stepping.{here_not_taken}
use Rattle.fol_store.proofs.store.Store.evict_to.Goals as goal

pub shift_from_bag-requires-clause-order : goal.shift_from_bag-requires-clause-order
unfolding IsStrictlySortedBy
shift_from_bag-requires-clause-order c = (tt, tt)

pub shift_from_bag-requires-clause-bag_open : goal.shift_from_bag-requires-clause-bag_open
unfolding bag_of
shift_from_bag-requires-clause-bag_open c = here_open c.self.inside.bags.items c.args.id (rw (← c.self.view_is) at c.requires.here)

pub shift_from_bag-requires-clause-apart : goal.shift_from_bag-requires-clause-apart
shift_from_bag-requires-clause-apart c = λ k x y p q.
    let e : in_bag c.args.id ≡ in_spot c.args.i = c.self.invariant.unique k (in_bag c.args.id) (in_spot c.args.i) x y p q in
    cc

moved : (c : goal.After-unname) → Spotted (the_view c.self.inside) (with_parts (the_view c.self.inside) c.shift_from_bag.new.spots.items c.shift_from_bag.new.bags.items c.unname.new.self (vec_capacity c.self.inside.arrivals - vec_len c.self.inside.arrivals) c.shift_from_bag.new.bags.free)
moved c =
    let here : (slot (the_view c.self.inside) c.args.id).here ≡ true = sym (ap (λ (b : Bag). b.here) (bag_slot (the_view c.self.inside) c.args.id)) ∙ (rw (← c.self.view_is) at c.requires.here) in
    let not_listed : (slot (the_view c.self.inside) c.args.id).listed ≡ false = sym (ap (λ (b : Bag). b.listed) (bag_slot (the_view c.self.inside) c.args.id)) ∙ (rw (← c.self.view_is) at c.requires.not_listed) in
    into_spot (the_view c.self.inside) c.shift_from_bag.new.spots.items c.shift_from_bag.new.bags.items c.unname.new.self _ _ c.args.i c.args.id c.args.c (slot_in c.shift_from_bag.new.bags.items c.args.id).body (spot_in c.shift_from_bag.new.spots.items c.args.i)
    (record {
      each_spot = c.shift_from_bag.ensures.spots;
      each_bag = c.shift_from_bag.ensures.sets.slots;
      spots_long = omega arith;
      bags_long = omega arith;
      timely = c.shift_from_bag.ensures.timely;
      spot_timely = c.shift_from_bag.ensures.to_timely;
      tick = c.in-Ok.ensures.loses.tick;
      owed = c.in-Ok.ensures.loses.owed;
      more_spare = omega arith;
      more_slots = omega (arith, c.shift_from_bag.ensures.sets.len, c.shift_from_bag.ensures.sets.free);
      at_spot = rw (← c.self.view_is) at c.requires.spot;
      at_bag = rw (← c.self.view_is) at c.requires.home;
      not_taken = here_not_taken c.args.id (the_view c.self.inside) c.self.invariant here;
    })
    c.self.invariant c.unname.ensures not_listed c.in-Ok.ensures.loses c.in-Ok.ensures.gains

stayed : (c : goal.In-Err) → Spotted (the_view c.self.inside) (with_parts (the_view c.self.inside) c.shift_from_bag.new.spots.items c.shift_from_bag.new.bags.items c.self.inside.places (vec_capacity c.self.inside.arrivals - vec_len c.self.inside.arrivals) c.shift_from_bag.new.bags.free)
stayed c =
    let here : (slot (the_view c.self.inside) c.args.id).here ≡ true = sym (ap (λ (b : Bag). b.here) (bag_slot (the_view c.self.inside) c.args.id)) ∙ (rw (← c.self.view_is) at c.requires.here) in
    from_spot (the_view c.self.inside) c.shift_from_bag.new.spots.items c.shift_from_bag.new.bags.items c.self.inside.places _ _ c.args.i c.args.id c.args.c (slot_in c.shift_from_bag.new.bags.items c.args.id).body (spot_in c.shift_from_bag.new.spots.items c.args.i)
    (record {
      each_spot = c.shift_from_bag.ensures.spots;
      each_bag = c.shift_from_bag.ensures.sets.slots;
      spots_long = omega arith;
      bags_long = omega arith;
      timely = c.shift_from_bag.ensures.timely;
      spot_timely = c.shift_from_bag.ensures.to_timely;
      tick = c.in-Err.ensures.err.tick;
      owed = c.in-Err.ensures.err.owed;
      more_spare = omega arith;
      more_slots = omega (arith, c.shift_from_bag.ensures.sets.len, c.shift_from_bag.ensures.sets.free);
      at_spot = rw (← c.self.view_is) at c.requires.spot;
      at_bag = rw (← c.self.view_is) at c.requires.home;
      not_taken = here_not_taken c.args.id (the_view c.self.inside) c.self.invariant here;
    })
    c.self.invariant [] (λ q z. (let f : false ≡ true = z in cc)) (λ q. refl) (loses_none _ _ c.in-Err.ensures.to_err) (gains_none _ _ _ c.in-Err.ensures.err)

pub invariant_of-self : goal.invariant_of-self
invariant_of-self c = (moved c).sound

pub invariant_of-self-in-Err : goal.invariant_of-self-in-Err
invariant_of-self-in-Err c = (stayed c).sound

pub returns-in-Ok-clause-same : goal.returns-in-Ok-clause-same
returns-in-Ok-clause-same c = rw (← c.self.view_is) (moved c).same

pub returns-in-Ok-clause-bags : goal.returns-in-Ok-clause-bags
returns-in-Ok-clause-bags c = rw (← c.self.view_is) (moved c).bags

pub returns-in-Ok-clause-gone : goal.returns-in-Ok-clause-gone
returns-in-Ok-clause-gone c = λ e.
    let f : None ≡ Some c.args.id = sym (ap (λ (p : Place). p.bag) (c.unname.ensures c.args.c) ∙ rw (same_chunk-self c.args.c) refl) ∙ e in cc

pub returns-in-Err-clause-same : goal.returns-in-Err-clause-same
returns-in-Err-clause-same c = rw (← c.self.view_is) (stayed c).same

pub returns-in-Err-clause-bags : goal.returns-in-Err-clause-bags
returns-in-Err-clause-bags c = rw (← c.self.view_is) (stayed c).bags
