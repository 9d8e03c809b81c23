use Rattle.std.proofs.Common.{◌≡◌, ◌-◌, ◌||◌, ◌&&◌, ℕ, [], true, false, refl, sym, Some, None, ◌∙◌, ap, arith, vec_len}
use Rattle.std.specs.Prelude.{IsTrue}
use Rattle.std.specs.Vec.{vec_capacity}
use Rattle.std.specs.List.Sorted.{IsStrictlySortedBy}
use Rattle.fol_model.specs.Geometry.{same_chunk}
use Rattle.fol_chunks.specs.Contents.{is_recorded}
use Rattle.fol_chunks.specs.Order.{chunk_cmp}
use Rattle.fol_store.specs.contracts.store.Store.{the_view}
use Rattle.fol_bags.specs.declared.slot.Slot.{Slot}
use Rattle.fol_bags.specs.Slots.{slot_in}
use Rattle.fol_bags.specs.declared.places.Place.{Place}
use Rattle.fol_bags.specs.Things.{Key, things}
use Rattle.fol_store.specs.Stock.{slot, spot, bag_of, place}
use Rattle.fol_bags.proofs.OpenBags.{here_range, here_open, first_open}
use Rattle.fol_store.proofs.Coming.{Followed, came, expects, unlisted, set_twice, wider}
use Rattle.fol_store.proofs.Drawing.{with_parts}
use Rattle.fol_store.proofs.Stepping.{listed_here}
use Rattle.fol_store.proofs.store.Store.admit.Goals as goal

pub none_waits-quiet-requires : goal.none_waits-quiet-requires
none_waits-quiet-requires c =
    let there : c.args.place ≡ place (the_view c.self.inside) c.args.c = rw (← c.self.view_is) at c.requires.there in
    rw (← c.self.view_is) (λ i e. c.self.invariant.spot_range c.args.c i (ap (λ (p : Place). p.spot) (sym there) ∙ e))

pub admit-requires-clause-open : goal.admit-requires-clause-open
unfolding bag_of
admit-requires-clause-open c =
    let here : (slot (the_view c.self.inside) c.args.id).here ≡ true = rw (← c.self.view_is) at c.requires.here in
    here_open c.self.inside.bags.items c.args.id here

pub admit-requires-clause-order : goal.admit-requires-clause-order
unfolding bag_of
admit-requires-clause-order c =
    let here : (slot (the_view c.self.inside) c.args.id).here ≡ true = rw (← c.self.view_is) at c.requires.here in
    let order : IsStrictlySortedBy chunk_cmp (slot (the_view c.self.inside) c.args.id).chunks = rw (← c.self.view_is) at c.requires.order in
    rw (listed_here c.args.id (the_view c.self.inside) c.self.invariant here) order

pub unlist-requires : goal.unlist-requires
unfolding bag_of
unlist-requires c = first_open c.args.id _ _ _ (c.admit.ensures.sets.slots c.args.id) (rw (← c.self.view_is) at c.requires.here)

with_chunk : (c : goal.In-Ok-set) → Followed (the_view c.self.inside) (with_parts (the_view c.self.inside) c.self.inside.spots.items c.admit.new.bags.items c.set.new.self (vec_capacity c.self.inside.arrivals - vec_len c.self.inside.arrivals) c.admit.new.bags.free) c.args.id (wider (the_view c.self.inside) c.args.id c.args.c)
unfolding bag_of
with_chunk c =
    let here : (slot (the_view c.self.inside) c.args.id).here ≡ true = rw (← c.self.view_is) at c.requires.here in
    let listed : (slot (the_view c.self.inside) c.args.id).listed ≡ true = rw (← c.self.view_is) at c.requires.listed in
    let there : c.args.place ≡ place (the_view c.self.inside) c.args.c = rw (← c.self.view_is) at c.requires.there in
    let d : Slot = slot_in c.admit.new.bags.items c.args.id in
    let same : (slot (the_view c.self.inside) c.args.id).list ≡ (slot (the_view c.self.inside) c.args.id).chunks = listed_here c.args.id (the_view c.self.inside) c.self.invariant here in
    let waiting : IsTrue c.none_waits-quiet.result → (the_view c.self.inside).arrivals ≡ [] = rw (← c.self.view_is) at c.none_waits-quiet.ensures.waiting in
    let bare : IsTrue c.none_waits-quiet.result → (i : ℕ) (k : Key) → c.args.place.spot ≡ Some i → things (spot (the_view c.self.inside) i) k ≡ None = rw (← c.self.view_is) at c.none_waits-quiet.ensures.bare in
    came (the_view c.self.inside) c.admit.new.bags.items c.set.new.self _ _ c.args.id c.args.c d.listed (c.none_waits-quiet.result && (slot (the_view c.self.inside) c.args.id).calm) d.list d.touched
    c.admit.ensures.sets.slots c.self.invariant (omega arith) (here_range c.self.inside.bags.items c.args.id here) here (omega arith) (omega (arith, c.admit.ensures.sets.len, c.admit.ensures.sets.free))
    listed c.args.place there c.requires.none c.in-Ok-set.ensures.ok c.in-Ok.ensures.order (λ q. c.in-Ok.ensures.has q ∙ ap (λ l. is_recorded l q || same_chunk c.args.c q) same) (expects (the_view c.self.inside) c.admit.new.bags.items c.set.new.self _ _ c.args.id c.args.c d.listed (c.none_waits-quiet.result && (slot (the_view c.self.inside) c.args.id).calm) d.list d.touched c.none_waits-quiet.result c.self.invariant refl c.in-Ok.ensures.noted waiting (λ t i k e. bare t i k (ap (λ (p : Place). p.spot) there ∙ e)))

without_place : (c : goal.After-unlist) → Followed (the_view c.self.inside) (with_parts (the_view c.self.inside) c.self.inside.spots.items c.unlist.new.bags.items c.set.new.self (vec_capacity c.self.inside.arrivals - vec_len c.self.inside.arrivals) c.unlist.new.bags.free) c.args.id (wider (the_view c.self.inside) c.args.id c.args.c)
unfolding bag_of
without_place c =
    let here : (slot (the_view c.self.inside) c.args.id).here ≡ true = rw (← c.self.view_is) at c.requires.here in
    let d : Slot = slot_in c.admit.new.bags.items c.args.id in
    let same : (slot (the_view c.self.inside) c.args.id).list ≡ (slot (the_view c.self.inside) c.args.id).chunks = listed_here c.args.id (the_view c.self.inside) c.self.invariant here in
    unlisted (the_view c.self.inside) c.unlist.new.bags.items c.set.new.self _ _ c.args.id c.args.c false (c.none_waits-quiet.result && (slot (the_view c.self.inside) c.args.id).calm) d.list d.touched
    (set_twice c.args.id (slot (the_view c.self.inside)) (slot_in c.admit.new.bags.items) (slot_in c.unlist.new.bags.items) _ (λ (z : Slot). let y : Slot = record z { listed = false } in y) c.admit.ensures.sets.slots c.unlist.ensures.sets.slots)
    c.self.invariant (omega arith) (here_range c.self.inside.bags.items c.args.id here) here (omega arith) (omega (arith, c.admit.ensures.sets.len, c.admit.ensures.sets.free, c.unlist.ensures.sets.len, c.unlist.ensures.sets.free))
    refl c.in-Err-set.ensures.err (λ q r. c.admit.ensures.kept q (ap (λ l. is_recorded l q) same ∙ r))

without_room : (c : goal.In-Err) → Followed (the_view c.self.inside) (with_parts (the_view c.self.inside) c.self.inside.spots.items c.admit.new.bags.items c.self.inside.places (vec_capacity c.self.inside.arrivals - vec_len c.self.inside.arrivals) c.admit.new.bags.free) c.args.id (wider (the_view c.self.inside) c.args.id c.args.c)
unfolding bag_of
without_room c =
    let here : (slot (the_view c.self.inside) c.args.id).here ≡ true = rw (← c.self.view_is) at c.requires.here in
    let d : Slot = slot_in c.admit.new.bags.items c.args.id in
    let same : (slot (the_view c.self.inside) c.args.id).list ≡ (slot (the_view c.self.inside) c.args.id).chunks = listed_here c.args.id (the_view c.self.inside) c.self.invariant here in
    unlisted (the_view c.self.inside) c.admit.new.bags.items c.self.inside.places _ _ c.args.id c.args.c d.listed (c.none_waits-quiet.result && (slot (the_view c.self.inside) c.args.id).calm) d.list d.touched
    c.admit.ensures.sets.slots c.self.invariant (omega arith) (here_range c.self.inside.bags.items c.args.id here) here (omega arith) (omega (arith, c.admit.ensures.sets.len, c.admit.ensures.sets.free))
    c.in-Err.ensures.unlisted (λ q. refl) (λ q r. c.admit.ensures.kept q (ap (λ l. is_recorded l q) same ∙ r))

pub invariant_of-self : goal.invariant_of-self
invariant_of-self c = (with_chunk c).sound

pub invariant_of-self-in-Err-set : goal.invariant_of-self-in-Err-set
invariant_of-self-in-Err-set c = (without_place c).sound

pub invariant_of-self-in-Err : goal.invariant_of-self-in-Err
invariant_of-self-in-Err c = (without_room c).sound

pub returns-in-Ok-set-clause-own : goal.returns-in-Ok-set-clause-own
returns-in-Ok-set-clause-own c = rw (← c.self.view_is) (with_chunk c).own

pub returns-in-Ok-set-clause-others : goal.returns-in-Ok-set-clause-others
returns-in-Ok-set-clause-others c = rw (← c.self.view_is) (with_chunk c).others

pub returns-in-Ok-set-clause-same : goal.returns-in-Ok-set-clause-same
returns-in-Ok-set-clause-same c = rw (← c.self.view_is) (with_chunk c).same

pub returns-in-Err-set-clause-own : goal.returns-in-Err-set-clause-own
returns-in-Err-set-clause-own c = rw (← c.self.view_is) (without_place c).own

pub returns-in-Err-set-clause-others : goal.returns-in-Err-set-clause-others
returns-in-Err-set-clause-others c = rw (← c.self.view_is) (without_place c).others

pub returns-in-Err-set-clause-same : goal.returns-in-Err-set-clause-same
returns-in-Err-set-clause-same c = rw (← c.self.view_is) (without_place c).same

pub returns-in-Err-clause-own : goal.returns-in-Err-clause-own
returns-in-Err-clause-own c = rw (← c.self.view_is) (without_room c).own

pub returns-in-Err-clause-others : goal.returns-in-Err-clause-others
returns-in-Err-clause-others c = rw (← c.self.view_is) (without_room c).others

pub returns-in-Err-clause-same : goal.returns-in-Err-clause-same
returns-in-Err-clause-same c = rw (← c.self.view_is) (without_room c).same
