use Rattle.std.proofs.Common.{rules, ◌≡◌, ◌-◌, ◌&&◌, not, true, false, List, [], refl, sym, ◌∙◌, ap, subst, arith, vec_len}
use Rattle.std.specs.Vec.{vec_capacity}
use Rattle.std.specs.List.Sorted.{IsStrictlySortedBy}
use Rattle.fol_model.specs.declared.places.ChunkPos.{ChunkPos}
use Rattle.fol_model.specs.Geometry.{same_chunk}
use Rattle.fol_chunks.specs.Contents.{is_recorded}
use Rattle.fol_chunks.specs.Order.{chunk_cmp}
use Rattle.fol_queues.proofs.Numbers.{nat_self}
use Rattle.fol_store.specs.contracts.store.Store.{the_view}
use Rattle.fol_bags.specs.declared.slot.Slot.{Slot}
use Rattle.fol_bags.specs.Slots.{slot_in, spot_in}
use Rattle.fol_store.specs.Stock.{Stock, slot, in_bag, in_spot, bag_of}
use Rattle.fol_store.proofs.Coming.{Followed, set_twice}
use Rattle.fol_store.proofs.Drawing.{with_parts, loses_none, gains_none}
use Rattle.fol_store.proofs.Leaving.{left_one, narrower}
use Rattle.fol_store.proofs.NoTask.{none_in_part}
use Rattle.fol_store.proofs.Spotting.{Spotted, from_spot}
use Rattle.fol_store.proofs.Stepping.{here_not_taken, listed_here}
use Rattle.fol_bags.proofs.OpenBags.{here_open, first_open}
use Rattle.fol_store.proofs.store.Store.expel_to.Goals as goal

pub shift_contents_from_bag-requires-clause-bag_open : goal.shift_contents_from_bag-requires-clause-bag_open
unfolding bag_of
shift_contents_from_bag-requires-clause-bag_open c = here_open c.self.inside.bags.items c.args.id (rw (← c.self.view_is) at c.requires.here)

pub shift_contents_from_bag-requires-clause-size : goal.shift_contents_from_bag-requires-clause-size
shift_contents_from_bag-requires-clause-size c = rw (← c.self.view_is) at c.requires.size

pub shift_contents_from_bag-requires-clause-no_task : goal.shift_contents_from_bag-requires-clause-no_task
shift_contents_from_bag-requires-clause-no_task c = none_in_part (the_view c.self.inside) c.args.c c.self.invariant.unique (rw (← c.self.view_is) at c.requires.no_task) (in_bag c.args.id)

pub shift_contents_from_bag-requires-clause-apart : goal.shift_contents_from_bag-requires-clause-apart
shift_contents_from_bag-requires-clause-apart c = λ k x y p q.
    let e : in_bag c.args.id ≡ in_spot c.args.i = c.self.invariant.unique k (in_bag c.args.id) (in_spot c.args.i) x y p q in
    cc

pub dismiss-requires-clause-open : goal.dismiss-requires-clause-open
unfolding bag_of
dismiss-requires-clause-open c = first_open c.args.id _ _ _ (c.shift_contents_from_bag.ensures.sets.slots c.args.id) (rw (← c.self.view_is) at c.requires.here)

pub dismiss-requires-clause-order : goal.dismiss-requires-clause-order
unfolding bag_of
dismiss-requires-clause-order c =
    let order : IsStrictlySortedBy chunk_cmp (slot (the_view c.self.inside) c.args.id).chunks = rw (← c.self.view_is) at c.requires.order in
    let mine : slot_in c.shift_contents_from_bag.new.bags.items c.args.id ≡ record (slot (the_view c.self.inside) c.args.id) { body = (slot_in c.shift_contents_from_bag.new.bags.items c.args.id).body } = c.shift_contents_from_bag.ensures.sets.slots c.args.id ∙ rw (nat_self c.args.id) refl in
    let here : (slot (the_view c.self.inside) c.args.id).here ≡ true = rw (← c.self.view_is) at c.requires.here in
    let P : List ChunkPos → Type 0 = λ xs. IsStrictlySortedBy chunk_cmp xs in
    subst P (sym (ap (λ (z : Slot). z.list) mine ∙ listed_here c.args.id (the_view c.self.inside) c.self.invariant here)) order

moved : (c : goal.After-dismiss) → Followed (the_view c.self.inside) (with_parts (the_view c.self.inside) c.shift_contents_from_bag.new.spots.items c.dismiss.new.bags.items c.unname.new.self (vec_capacity c.self.inside.arrivals - vec_len c.self.inside.arrivals) c.dismiss.new.bags.free) c.args.id (narrower (the_view c.self.inside) c.args.id c.args.c)
unfolding bag_of
moved c =
    let s : Stock = the_view c.self.inside in
    let here : (slot s c.args.id).here ≡ true = rw (← c.self.view_is) at c.requires.here in
    let between : Slot = slot_in c.shift_contents_from_bag.new.bags.items c.args.id in
    let d : Slot = slot_in c.dismiss.new.bags.items c.args.id in
    let mine : between ≡ record (slot s c.args.id) { body = between.body } = c.shift_contents_from_bag.ensures.sets.slots c.args.id ∙ rw (nat_self c.args.id) refl in
    left_one s c.shift_contents_from_bag.new.spots.items c.dismiss.new.bags.items c.unname.new.self _ _ c.args.i c.args.id c.args.c between.body (spot_in c.shift_contents_from_bag.new.spots.items c.args.i) d.list
    (record {
      each_spot = c.shift_contents_from_bag.ensures.spots;
      each_bag = set_twice c.args.id (slot s) (slot_in c.shift_contents_from_bag.new.bags.items) (slot_in c.dismiss.new.bags.items) _ (λ (z : Slot). let y : Slot = record z { chunks = d.list; list = d.list } in y) c.shift_contents_from_bag.ensures.sets.slots c.dismiss.ensures.sets.slots;
      spots_long = omega arith;
      bags_long = omega arith;
      timely = c.shift_contents_from_bag.ensures.timely;
      spot_timely = c.shift_contents_from_bag.ensures.to_timely;
      more_spare = omega arith;
      more_slots = omega (arith, c.shift_contents_from_bag.ensures.sets.len, c.shift_contents_from_bag.ensures.sets.free, c.dismiss.ensures.sets.len, c.dismiss.ensures.sets.free);
      at_spot = rw (← c.self.view_is) at c.requires.spot;
      at_bag = rw (← c.self.view_is) at c.requires.home;
      homes = c.unname.ensures;
      here = here;
      listed = rw (← c.self.view_is) at c.requires.listed;
      loses = c.in_ok-shift_contents_from_bag.ensures.loses;
      gains = c.in_ok-shift_contents_from_bag.ensures.gains;
      order = c.dismiss.ensures.order;
      has = λ q. c.dismiss.ensures.has q ∙ ap (λ l. is_recorded l q && not (same_chunk c.args.c q)) (ap (λ (z : Slot). z.list) mine ∙ listed_here c.args.id s c.self.invariant here);
    })
    c.self.invariant

stayed : (c : goal.After-from_residual) → Spotted (the_view c.self.inside) (with_parts (the_view c.self.inside) c.shift_contents_from_bag.new.spots.items c.shift_contents_from_bag.new.bags.items c.self.inside.places (vec_capacity c.self.inside.arrivals - vec_len c.self.inside.arrivals) c.shift_contents_from_bag.new.bags.free)
unfolding bag_of
stayed c =
    let here : (slot (the_view c.self.inside) c.args.id).here ≡ true = rw (← c.self.view_is) at c.requires.here in
    from_spot (the_view c.self.inside) c.shift_contents_from_bag.new.spots.items c.shift_contents_from_bag.new.bags.items c.self.inside.places _ _ c.args.i c.args.id c.args.c (slot_in c.shift_contents_from_bag.new.bags.items c.args.id).body (spot_in c.shift_contents_from_bag.new.spots.items c.args.i)
    (record {
      each_spot = c.shift_contents_from_bag.ensures.spots;
      each_bag = c.shift_contents_from_bag.ensures.sets.slots;
      spots_long = omega arith;
      bags_long = omega arith;
      timely = c.shift_contents_from_bag.ensures.timely;
      spot_timely = c.shift_contents_from_bag.ensures.to_timely;
      tick = c.in_err-shift_contents_from_bag.ensures.err.tick;
      owed = c.in_err-shift_contents_from_bag.ensures.err.owed;
      more_spare = omega arith;
      more_slots = omega (arith, c.shift_contents_from_bag.ensures.sets.len, c.shift_contents_from_bag.ensures.sets.free);
      at_spot = rw (← c.self.view_is) at c.requires.spot;
      at_bag = rw (← c.self.view_is) at c.requires.home;
      not_taken = here_not_taken c.args.id (the_view c.self.inside) c.self.invariant here;
    })
    c.self.invariant [] (λ q z. (let f : false ≡ true = z in cc)) (λ q. refl) (loses_none _ _ c.in_err-shift_contents_from_bag.ensures.to_err) (gains_none _ _ _ c.in_err-shift_contents_from_bag.ensures.err)

pub invariant_of-self : goal.invariant_of-self
invariant_of-self c = (stayed c).sound

pub returns-in_err-shift_contents_from_bag-clause-err : goal.returns-in_err-shift_contents_from_bag-clause-err
returns-in_err-shift_contents_from_bag-clause-err c = let same = (stayed c).bags in rw (← c.self.view_is) (search (rules, same))

pub returns-in_err-shift_contents_from_bag-clause-same : goal.returns-in_err-shift_contents_from_bag-clause-same
returns-in_err-shift_contents_from_bag-clause-same c = rw (← c.self.view_is) (stayed c).same

pub invariant_of-self-2 : goal.invariant_of-self-2
invariant_of-self-2 c = (moved c).sound

pub returns-clause-own : goal.returns-clause-own
returns-clause-own c = rw (← c.self.view_is) (moved c).own

pub returns-clause-others : goal.returns-clause-others
returns-clause-others c = rw (← c.self.view_is) (moved c).others

pub returns-clause-same : goal.returns-clause-same
returns-clause-same c = rw (← c.self.view_is) (moved c).same

pub returns-clause-calm : goal.returns-clause-calm
unfolding bag_of
returns-clause-calm c =
    let between : Slot = slot_in c.shift_contents_from_bag.new.bags.items c.args.id in
    let d : Slot = slot_in c.dismiss.new.bags.items c.args.id in
    let mine : between ≡ record (slot (the_view c.self.inside) c.args.id) { body = between.body } = c.shift_contents_from_bag.ensures.sets.slots c.args.id ∙ rw (nat_self c.args.id) refl in
    let last : d ≡ record between { chunks = d.list; list = d.list } = c.dismiss.ensures.sets.slots c.args.id ∙ rw (nat_self c.args.id) refl in
    rw (← c.self.view_is) (ap (λ (z : Slot). z.calm) last ∙ ap (λ (z : Slot). z.calm) mine)
