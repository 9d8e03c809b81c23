use Rattle.std.proofs.Common.{◌≡◌, ◌-◌, ℕ, ◌&&◌, not, Bool, true, false, List, refl, ◌∙◌, ap, arith, vec_len}
use Rattle.std.specs.Vec.{vec_capacity}
use Rattle.fol_model.specs.declared.places.ChunkPos.{ChunkPos}
use Rattle.fol_chunks.specs.Contents.{is_recorded}
use Rattle.fol_data.specs.declared.region_data.RegionData.{RegionData}
use Rattle.fol_store.specs.contracts.store.Store.{the_view}
use Rattle.fol_bags.specs.declared.slot.Slot.{Slot}
use Rattle.fol_bags.specs.Places.{rehomed}
use Rattle.fol_bags.specs.Slots.{slot_in}
use Rattle.fol_store.specs.Stock.{Stock, slot, place, in_bag}
use Rattle.fol_bags.proofs.OpenBags.{here_range, here_open, first_open, second_open}
use Rattle.fol_store.proofs.Drawing.{with_parts, loses_none, gains_none}
use Rattle.fol_store.proofs.GoingOver.{a_pair, shift_and_list}
use Rattle.fol_store.proofs.Parting.{Handed, left_over, listed_over, poured_list, shift_and_lose, was_in_order, was_listed}
use Rattle.fol_store.proofs.store.Store.move_some.Goals as goal

pub shift_bags-requires-clause-from_there : goal.shift_bags-requires-clause-from_there
shift_bags-requires-clause-from_there c =
    let p = a_pair _ c.args.self.now c.args.from c.args.to c.self.view_is c.requires.here c.requires.fresh c.requires.differ in
    here_range c.self.inside.bags.items c.args.from p.here

pub shift_bags-requires-clause-to_open : goal.shift_bags-requires-clause-to_open
shift_bags-requires-clause-to_open c =
    let p = a_pair _ c.args.self.now c.args.from c.args.to c.self.view_is c.requires.here c.requires.fresh c.requires.differ in
    here_open c.self.inside.bags.items c.args.to p.id_here

pub shift_bags-requires-clause-apart : goal.shift_bags-requires-clause-apart
shift_bags-requires-clause-apart c = λ k x y p q.
    let e : in_bag c.args.from ≡ in_bag c.args.to = c.self.invariant.unique k (in_bag c.args.from) (in_bag c.args.to) x y p q in
    let f : c.args.from ≡ c.args.to = cc in c.requires.differ f

-- the first bag after what lies on the chunks left it, the second after it came, and the first without the chunks
abbrev poured : Stock → ℕ → RegionData → Slot
poured s u left = record (slot s u) { body = left; listed = false }

abbrev filled : Stock → ℕ → RegionData → Slot
filled s id come = record (slot s id) { body = come }

abbrev relisted : Bool → List ChunkPos → Slot → Slot
relisted listed rest b = record b { listed = listed; chunks = rest; list = rest }

pub list_others-requires-clause-open : goal.list_others-requires-clause-open
list_others-requires-clause-open c =
    let p = a_pair _ c.args.self.now c.args.from c.args.to c.self.view_is c.requires.here c.requires.fresh c.requires.differ in
    first_open c.args.from _ _ _ (c.shift_bags.ensures.sets.slots c.args.from) p.here

pub list_others-requires-clause-order : goal.list_others-requires-clause-order
list_others-requires-clause-order c = λ l.
    let s = the_view c.self.inside in
    let p = a_pair s c.args.self.now c.args.from c.args.to c.self.view_is c.requires.here c.requires.fresh c.requires.differ in
    let mid = slot_in c.shift_bags.new.bags.items in
    rw (poured_list s c.args.from c.args.to (mid c.args.from).body (filled s c.args.to (mid c.args.to).body) mid c.shift_bags.ensures.sets.slots c.self.invariant p.here)
    (was_in_order s c.args.self.now c.args.from c.self.view_is c.requires.from_order (was_listed s c.args.self.now c.args.from c.is_listed-listed.result c.self.view_is c.is_listed-listed.ensures l))

pub list-requires : goal.list-requires
list-requires c =
    let s = the_view c.self.inside in
    let p = a_pair s c.args.self.now c.args.from c.args.to c.self.view_is c.requires.here c.requires.fresh c.requires.differ in
    let mid = slot_in c.shift_bags.new.bags.items in
    let next = slot_in c.list_others.new.bags.items in
    second_open c.args.from c.args.to _ _ _ _ c.requires.differ
    (shift_and_lose s c.args.from c.args.to (poured s c.args.from (mid c.args.from).body) (filled s c.args.to (mid c.args.to).body) mid next (relisted c.is_listed-listed.result (next c.args.from).list) c.shift_bags.ensures.sets.slots c.list_others.ensures.sets.slots c.args.to)
    p.id_here

moved : (c : goal.After-list) → Handed c.args.from c.args.to c.args.lists.chunks.items (the_view c.self.inside) (with_parts (the_view c.self.inside) c.self.inside.spots.items c.list.new.bags.items c.rehome.new.self (vec_capacity c.self.inside.arrivals - vec_len c.self.inside.arrivals) c.list.new.bags.free)
moved c =
    let s = the_view c.self.inside in
    let p = a_pair s c.args.self.now c.args.from c.args.to c.self.view_is c.requires.here c.requires.fresh c.requires.differ in
    let mid = slot_in c.shift_bags.new.bags.items in
    let next = slot_in c.list_others.new.bags.items in
    let listed = c.is_listed-listed.result in
    let left = (mid c.args.from).body in
    let come = (mid c.args.to).body in
    let rest = (next c.args.from).list in
    let chunks = c.args.lists.chunks.items in
    let first : (mid c.args.from).list ≡ (slot s c.args.from).chunks = poured_list s c.args.from c.args.to left (filled s c.args.to come) mid c.shift_bags.ensures.sets.slots c.self.invariant p.here in
    let was : listed ≡ true → (slot s c.args.from).listed ≡ true = was_listed s c.args.self.now c.args.from listed c.self.view_is c.is_listed-listed.ensures in
    listed_over s c.list.new.bags.items c.rehome.new.self _ _ c.args.from c.args.to chunks c.args.lists.touched.items left come listed rest
    (record {
      pours = record {
        each = shift_and_list s c.args.from c.args.to (relisted listed rest (poured s c.args.from left)) (filled s c.args.to come) next (slot_in c.list.new.bags.items)
            (λ (x : Slot). let b : Slot = record x { listed = true; calm = false; chunks = chunks; list = chunks; touched = c.args.lists.touched.items } in b)
            c.requires.differ
            (shift_and_lose s c.args.from c.args.to (poured s c.args.from left) (filled s c.args.to come) mid next (relisted listed rest) c.shift_bags.ensures.sets.slots c.list_others.ensures.sets.slots)
            c.list.ensures.sets.slots;
        loses = rw c.deref.ensures.value at c.in-Ok.ensures.loses;
        gains = rw c.deref.ensures.value at c.in-Ok.ensures.gains;
        homes = λ q. c.rehome.ensures q ∙ ap (λ (l : List ChunkPos). rehomed l c.args.from c.args.to q (place s q)) c.deref-in-Ok.ensures.value;
        apart = c.requires.differ;
        long = omega (arith, c.shift_bags.ensures.sets.len, c.list_others.ensures.sets.len, c.list.ensures.sets.len);
        there = here_range c.self.inside.bags.items c.args.to p.id_here;
        timely = c.shift_bags.ensures.timely;
        to_timely = c.shift_bags.ensures.to_timely;
      };
      pair = p;
      before = was;
      order = λ l. was_in_order s c.args.self.now c.args.from c.self.view_is c.requires.from_order (was l);
      rest_order = c.list_others.ensures.order;
      has = λ l q. c.list_others.ensures.has l q ∙ ap (λ (xs : List ChunkPos). is_recorded xs q && not (is_recorded c.deref-in-Ok-2.result.now q)) first ∙ ap (λ (xs : List ChunkPos). is_recorded (slot s c.args.from).chunks q && not (is_recorded xs q)) c.deref-in-Ok-2.ensures.value;
      unlisted = λ l. c.list_others.ensures.unlisted l ∙ first;
      homes = rw (← c.self.view_is) at c.requires.homes;
      touched_are = rw (← c.self.view_is) at c.requires.touched;
      more_spare = omega arith;
      more_slots = omega (arith, c.shift_bags.ensures.sets.len, c.shift_bags.ensures.sets.free, c.list_others.ensures.sets.len, c.list_others.ensures.sets.free, c.list.ensures.sets.len, c.list.ensures.sets.free);
    })
    c.self.invariant

stayed : (c : goal.After-drop-lists-in-Err-1) → Handed c.args.from c.args.to c.args.lists.chunks.items (the_view c.self.inside) (with_parts (the_view c.self.inside) c.self.inside.spots.items c.shift_bags.new.bags.items c.self.inside.places (vec_capacity c.self.inside.arrivals - vec_len c.self.inside.arrivals) c.shift_bags.new.bags.free)
stayed c =
    let s = the_view c.self.inside in
    let p = a_pair s c.args.self.now c.args.from c.args.to c.self.view_is c.requires.here c.requires.fresh c.requires.differ in
    left_over s c.shift_bags.new.bags.items _ _ c.args.from c.args.to c.args.lists.chunks.items
    (slot_in c.shift_bags.new.bags.items c.args.from).body (slot_in c.shift_bags.new.bags.items c.args.to).body
    (record {
      pours = record {
        each = c.shift_bags.ensures.sets.slots;
        loses = loses_none _ _ c.in-Err.ensures.err;
        gains = gains_none _ _ _ c.in-Err.ensures.to_err;
        homes = λ q. refl;
        apart = c.requires.differ;
        long = omega (arith, c.shift_bags.ensures.sets.len);
        there = here_range c.self.inside.bags.items c.args.to p.id_here;
        timely = c.shift_bags.ensures.timely;
        to_timely = c.shift_bags.ensures.to_timely;
      };
      pair = p;
      more_spare = omega arith;
      more_slots = omega (arith, c.shift_bags.ensures.sets.len, c.shift_bags.ensures.sets.free);
    })
    c.self.invariant

pub invariant_of-self : goal.invariant_of-self
invariant_of-self c = (moved c).sound

pub invariant_of-self-in-Err-1 : goal.invariant_of-self-in-Err-1
invariant_of-self-in-Err-1 c = (stayed c).sound

pub returns-in-Ok-clause-received : goal.returns-in-Ok-clause-received
returns-in-Ok-clause-received c = rw (← c.self.view_is) (moved c).received

pub returns-in-Ok-clause-same : goal.returns-in-Ok-clause-same
returns-in-Ok-clause-same c = rw (← c.self.view_is) (moved c).same

pub returns-in-Err-clause-received : goal.returns-in-Err-clause-received
returns-in-Err-clause-received c = rw (← c.self.view_is) (stayed c).received

pub returns-in-Err-clause-same : goal.returns-in-Err-clause-same
returns-in-Err-clause-same c = rw (← c.self.view_is) (stayed c).same
