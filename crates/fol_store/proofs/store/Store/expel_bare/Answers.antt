use Rattle.std.proofs.Common.{◌≡◌, ◌-◌, ◌&&◌, not, true, refl, ◌∙◌, ap, arith, vec_len}
use Rattle.std.specs.Vec.{vec_capacity}
use Rattle.std.specs.List.Sorted.{IsStrictlySortedBy}
use Rattle.fol_model.specs.Geometry.{same_chunk}
use Rattle.fol_chunks.specs.Contents.{is_recorded}
use Rattle.fol_chunks.specs.Order.{chunk_cmp}
use Rattle.fol_queues.proofs.Numbers.{nat_self}
use Rattle.fol_store.specs.contracts.store.Store.{the_view}
use Rattle.fol_bags.specs.declared.slot.Slot.{Slot}
use Rattle.fol_bags.specs.Slots.{slot_in}
use Rattle.fol_store.specs.Stock.{Stock, slot, bag_of}
use Rattle.fol_store.proofs.Coming.{Followed}
use Rattle.fol_store.proofs.Drawing.{with_parts}
use Rattle.fol_store.proofs.Leaving.{narrower}
use Rattle.fol_store.proofs.LeavingBare.{left_bare}
use Rattle.fol_store.proofs.Stepping.{listed_here}
use Rattle.fol_bags.proofs.OpenBags.{here_open}
use Rattle.fol_store.proofs.store.Store.expel_bare.Goals as goal

pub dismiss-requires-clause-open : goal.dismiss-requires-clause-open
unfolding bag_of
dismiss-requires-clause-open c = here_open c.self.inside.bags.items c.args.id (rw (← c.self.view_is) at c.requires.here)

pub dismiss-requires-clause-order : goal.dismiss-requires-clause-order
unfolding bag_of
dismiss-requires-clause-order c =
    let here : (slot (the_view c.self.inside) c.args.id).here ≡ true = rw (← c.self.view_is) at c.requires.here in
    let order : IsStrictlySortedBy chunk_cmp (slot (the_view c.self.inside) c.args.id).chunks = rw (← c.self.view_is) at c.requires.order in
    rw (listed_here c.args.id (the_view c.self.inside) c.self.invariant here) order

left : (c : goal.After-dismiss) → Followed (the_view c.self.inside) (with_parts (the_view c.self.inside) c.self.inside.spots.items c.dismiss.new.bags.items c.unname.new.self (vec_capacity c.self.inside.arrivals - vec_len c.self.inside.arrivals) c.dismiss.new.bags.free) c.args.id (narrower (the_view c.self.inside) c.args.id c.args.c)
unfolding bag_of
left c =
    let s : Stock = the_view c.self.inside in
    let here : (slot s c.args.id).here ≡ true = rw (← c.self.view_is) at c.requires.here in
    left_bare s c.dismiss.new.bags.items c.unname.new.self _ _ c.args.id c.args.c (slot_in c.dismiss.new.bags.items c.args.id).list
    (record {
      each_bag = c.dismiss.ensures.sets.slots;
      long = c.dismiss.ensures.sets.len;
      more_spare = omega arith;
      more_slots = omega (arith, c.dismiss.ensures.sets.len, c.dismiss.ensures.sets.free);
      unnamed = record { homes = c.unname.ensures; at_bag = rw (← c.self.view_is) at c.requires.home };
      here = here;
      order = c.dismiss.ensures.order;
      has = λ q. c.dismiss.ensures.has q ∙ ap (λ l. is_recorded l q && not (same_chunk c.args.c q)) (listed_here c.args.id s c.self.invariant here);
      bare = rw (← c.self.view_is) at c.requires.bare;
    })
    c.self.invariant

left_calm : (c : goal.After-dismiss) → (slot_in c.dismiss.new.bags.items c.args.id).calm ≡ (slot (the_view c.self.inside) c.args.id).calm
left_calm c =
    let d : Slot = slot_in c.dismiss.new.bags.items c.args.id in
    let mine : d ≡ record (slot (the_view c.self.inside) c.args.id) { chunks = d.list; list = d.list } = c.dismiss.ensures.sets.slots c.args.id ∙ rw (nat_self c.args.id) refl in
    ap (λ (b : Slot). b.calm) mine

pub invariant_of-self : goal.invariant_of-self
invariant_of-self c = (left c).sound

pub returns-clause-own : goal.returns-clause-own
returns-clause-own c = rw (← c.self.view_is) (left c).own

pub returns-clause-others : goal.returns-clause-others
returns-clause-others c = rw (← c.self.view_is) (left c).others

pub returns-clause-same : goal.returns-clause-same
returns-clause-same c = rw (← c.self.view_is) (left c).same

pub returns-clause-calm : goal.returns-clause-calm
unfolding bag_of
returns-clause-calm c = rw (← c.self.view_is) (left_calm c)
