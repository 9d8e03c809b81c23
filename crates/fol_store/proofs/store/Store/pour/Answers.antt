use Rattle.std.proofs.Common.{◌≡◌, ◌-◌, Bool, ◌||◌, true, false, List, [], refl, ◌∙◌, ap, arith, vec_len}
use Rattle.std.specs.Vec.{vec_capacity}
use Rattle.std.specs.List.Sorted.{IsStrictlySortedBy}
use Rattle.fol_model.specs.declared.places.ChunkPos.{ChunkPos}
use Rattle.fol_chunks.specs.Contents.{is_recorded}
use Rattle.fol_chunks.specs.Order.{chunk_cmp}
use Rattle.fol_store.specs.contracts.store.Store.{the_view}
use Rattle.fol_bags.specs.Places.{rehomed}
use Rattle.fol_bags.specs.Slots.{slot_in}
use Rattle.fol_store.specs.Stock.{slot, place, in_bag, bag_of}
use Rattle.fol_bags.proofs.OpenBags.{here_range, here_open}
use Rattle.fol_store.proofs.Drawing.{with_parts, loses_none, gains_none}
use Rattle.fol_store.proofs.Joining.{Merged, both_whole, merged_bags, none_shared}
use Rattle.fol_store.proofs.Stepping.{listed_here}
use Rattle.fol_store.proofs.store.Store.pour.Goals as goal

pub merge-requires-clause-order : goal.merge-requires-clause-order
unfolding bag_of
merge-requires-clause-order c =
    let k = both_whole _ _ _ _ c.self.view_is c.requires.from c.requires.into c.requires.from_whole c.requires.into_whole in
    let order : IsStrictlySortedBy chunk_cmp (slot (the_view c.self.inside) c.args.from).chunks = (rw (← c.self.view_is) at c.requires.from_order) k.listed in
    rw (listed_here c.args.from (the_view c.self.inside) c.self.invariant k.here) order

pub merge-requires-clause-into_order : goal.merge-requires-clause-into_order
unfolding bag_of
merge-requires-clause-into_order c =
    let k = both_whole _ _ _ _ c.self.view_is c.requires.from c.requires.into c.requires.from_whole c.requires.into_whole in
    let order : IsStrictlySortedBy chunk_cmp (slot (the_view c.self.inside) c.args.into).chunks = (rw (← c.self.view_is) at c.requires.into_order) k.id_listed in
    rw (listed_here c.args.into (the_view c.self.inside) c.self.invariant k.id_here) order

pub merge-requires-clause-none_shared : goal.merge-requires-clause-none_shared
unfolding bag_of
merge-requires-clause-none_shared c =
    let k = both_whole _ _ _ _ c.self.view_is c.requires.from c.requires.into c.requires.from_whole c.requires.into_whole in
    rw (listed_here c.args.from (the_view c.self.inside) c.self.invariant k.here, listed_here c.args.into (the_view c.self.inside) c.self.invariant k.id_here)
    (none_shared (the_view c.self.inside) c.args.from c.args.into c.self.invariant c.requires.differ k.listed k.id_listed)

pub merge-requires-clause-from_open : goal.merge-requires-clause-from_open
merge-requires-clause-from_open c =
    let k = both_whole _ _ _ _ c.self.view_is c.requires.from c.requires.into c.requires.from_whole c.requires.into_whole in
    here_open c.self.inside.bags.items c.args.from k.here

pub merge-requires-clause-into_open : goal.merge-requires-clause-into_open
merge-requires-clause-into_open c =
    let k = both_whole _ _ _ _ c.self.view_is c.requires.from c.requires.into c.requires.from_whole c.requires.into_whole in
    here_open c.self.inside.bags.items c.args.into k.id_here

pub merge-requires-clause-apart : goal.merge-requires-clause-apart
merge-requires-clause-apart c = λ k x y p q.
    let e : in_bag c.args.from ≡ in_bag c.args.into = c.self.invariant.unique k (in_bag c.args.from) (in_bag c.args.into) x y p q in
    let f : c.args.from ≡ c.args.into = cc in c.requires.differ f

first : (b : Bool) {a : Bool} → a ≡ true → (a || b) ≡ true
first b e = rw e refl

last : (a : Bool) {b : Bool} → b ≡ true → (a || b) ≡ true
last true e = refl
last false e = e

moved : (c : goal.After-drop-moved) → Merged c.args.from c.args.into (the_view c.self.inside) (with_parts (the_view c.self.inside) c.self.inside.spots.items c.merge.new.bags.items c.rehome.new.self (vec_capacity c.self.inside.arrivals - vec_len c.self.inside.arrivals) c.merge.new.bags.free)
moved c =
    let k = both_whole _ _ _ _ c.self.view_is c.requires.from c.requires.into c.requires.from_whole c.requires.into_whole in
    let all : (slot (the_view c.self.inside) c.args.from).list ≡ (slot (the_view c.self.inside) c.args.from).chunks = listed_here c.args.from (the_view c.self.inside) c.self.invariant k.here in
    let own : (slot (the_view c.self.inside) c.args.into).list ≡ (slot (the_view c.self.inside) c.args.into).chunks = listed_here c.args.into (the_view c.self.inside) c.self.invariant k.id_here in
    merged_bags (the_view c.self.inside) c.merge.new.bags.items c.rehome.new.self _ _ c.args.from c.args.into (slot (the_view c.self.inside) c.args.from).list
    (slot_in c.merge.new.bags.items c.args.from).body (slot_in c.merge.new.bags.items c.args.into).body true true (slot_in c.merge.new.bags.items c.args.into).list []
    (record {
      pours = record {
        each = c.in-Ok.ensures.sets.slots;
        loses = c.in-Ok.ensures.loses;
        gains = c.in-Ok.ensures.gains;
        homes = λ q. c.rehome.ensures q ∙ ap (λ (l : List ChunkPos). rehomed l c.args.from c.args.into q (place (the_view c.self.inside) q)) (c.deref.ensures.value ∙ c.in-Ok.ensures.moved);
        apart = c.requires.differ;
        long = omega (arith, c.in-Ok.ensures.sets.len);
        there = here_range c.self.inside.bags.items c.args.into k.id_here;
        timely = c.merge.ensures.timely;
        to_timely = c.merge.ensures.into_timely;
      };
      both = k;
      kept = rw own at (λ (q : ChunkPos) (r : is_recorded (slot (the_view c.self.inside) c.args.into).list q ≡ true). c.in-Ok.ensures.both.has q ∙ first (is_recorded (slot (the_view c.self.inside) c.args.from).list q) r);
      got = λ q r. c.in-Ok.ensures.both.has q ∙ last (is_recorded (slot (the_view c.self.inside) c.args.into).list q) r;
      all = λ o. all;
      union = λ o. rw (own, all) at c.in-Ok.ensures.both;
      none_noted = λ o. refl;
      more_spare = omega arith;
      more_slots = omega (arith, c.in-Ok.ensures.sets.len, c.in-Ok.ensures.sets.free);
    })
    c.self.invariant

stayed : (c : goal.In-Err) → Merged c.args.from c.args.into (the_view c.self.inside) (with_parts (the_view c.self.inside) c.self.inside.spots.items c.merge.new.bags.items c.self.inside.places (vec_capacity c.self.inside.arrivals - vec_len c.self.inside.arrivals) c.merge.new.bags.free)
stayed c =
    let k = both_whole _ _ _ _ c.self.view_is c.requires.from c.requires.into c.requires.from_whole c.requires.into_whole in
    merged_bags (the_view c.self.inside) c.merge.new.bags.items c.self.inside.places _ _ c.args.from c.args.into []
    (slot_in c.merge.new.bags.items c.args.from).body (slot_in c.merge.new.bags.items c.args.into).body false (slot (the_view c.self.inside) c.args.into).calm (slot_in c.merge.new.bags.items c.args.into).list (slot (the_view c.self.inside) c.args.into).touched
    (record {
      pours = record {
        each = c.in-Err.ensures.sets_err.slots;
        loses = loses_none _ _ c.in-Err.ensures.err;
        gains = gains_none _ _ _ c.in-Err.ensures.into_err;
        homes = λ q. refl;
        apart = c.requires.differ;
        long = omega (arith, c.in-Err.ensures.sets_err.len);
        there = here_range c.self.inside.bags.items c.args.into k.id_here;
        timely = c.merge.ensures.timely;
        to_timely = c.merge.ensures.into_timely;
      };
      both = k;
      kept = rw (listed_here c.args.into (the_view c.self.inside) c.self.invariant k.id_here) at c.in-Err.ensures.part.kept;
      got = λ q r. (let z : false ≡ true = r in cc);
      all = λ o. (let z : false ≡ true = o in cc);
      union = λ o. (let z : false ≡ true = o in cc);
      none_noted = λ o. (let z : false ≡ true = o in cc);
      more_spare = omega arith;
      more_slots = omega (arith, c.in-Err.ensures.sets_err.len, c.in-Err.ensures.sets_err.free);
    })
    c.self.invariant

pub invariant_of-self : goal.invariant_of-self
invariant_of-self c = (moved c).sound

pub invariant_of-self-in-Err : goal.invariant_of-self-in-Err
invariant_of-self-in-Err c = (stayed c).sound

pub returns-in-Ok-clause-joined : goal.returns-in-Ok-clause-joined
returns-in-Ok-clause-joined c = rw (← c.self.view_is) (moved c).joined

pub returns-in-Ok-clause-same : goal.returns-in-Ok-clause-same
returns-in-Ok-clause-same c = rw (← c.self.view_is) (moved c).same

pub returns-in-Err-clause-joined : goal.returns-in-Err-clause-joined
returns-in-Err-clause-joined c = rw (← c.self.view_is) (stayed c).joined

pub returns-in-Err-clause-same : goal.returns-in-Err-clause-same
returns-in-Err-clause-same c = rw (← c.self.view_is) (stayed c).same
