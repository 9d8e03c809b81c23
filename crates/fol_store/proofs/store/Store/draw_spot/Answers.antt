use Rattle.std.proofs.Common.{◌≡◌, ℕ, ◌-◌, true, false, [], ◌∷◌, refl, ap, inl, inr, arith, vec_len}
use Rattle.std.specs.Vec.{vec_capacity}
use Rattle.fol_model.specs.declared.places.ChunkPos.{ChunkPos}
use Rattle.std.specs.List.Sorted.{IsStrictlySortedBy}
use Rattle.fol_store.specs.Bag.{Bag}
use Rattle.fol_store.specs.contracts.store.Store.{the_view}
use Rattle.fol_bags.specs.Slots.{slot_in, spot_in}
use Rattle.fol_store.specs.Stock.{Stock, slot, in_bag, in_spot, bag_of}
use Rattle.fol_store.specs.Steps.{IsTarget, IsGathered}
use Rattle.fol_store.proofs.Drawing.{Drawn, with_parts, loses_none, gains_none}
use Rattle.fol_store.proofs.Spotting.{Spotted, OnePair, from_spot, keeps_gathered, gathers}
use Rattle.fol_keyed.proofs.Recorded.{single-is, single-self}
use Rattle.fol_store.proofs.Stepping.{target_here, here_not_taken, others_same}
use Rattle.fol_bags.proofs.OpenBags.{here_open}
use Rattle.fol_store.proofs.store.Store.draw_spot.Goals as goal
use Rattle.fol_keyed.proofs.Answers.{answer_cases}
use Rattle.fol_bags.specs.Moves.{Loses, Gains, SameThings}

pub shift_to_bag-requires-clause-order : goal.shift_to_bag-requires-clause-order
unfolding IsStrictlySortedBy
shift_to_bag-requires-clause-order c = (tt, tt)

pub shift_to_bag-requires-clause-bag_open : goal.shift_to_bag-requires-clause-bag_open
shift_to_bag-requires-clause-bag_open c =
    let target : IsTarget c.args.id (bag_of (the_view c.self.inside) c.args.id).chunks (the_view c.self.inside) = rw (← c.self.view_is) at c.requires.target in
    here_open c.self.inside.bags.items c.args.id (target_here c.args.id (bag_of (the_view c.self.inside) c.args.id).chunks (the_view c.self.inside) target)

pub shift_to_bag-requires-clause-apart : goal.shift_to_bag-requires-clause-apart
shift_to_bag-requires-clause-apart c = λ k x y p q.
    let e : in_spot c.args.i ≡ in_bag c.args.id = c.self.invariant.unique k (in_spot c.args.i) (in_bag c.args.id) x y p q in
    cc

abbrev after : goal.After-shift_to_bag → Stock
after c = with_parts (the_view c.self.inside) c.shift_to_bag.new.spots.items c.shift_to_bag.new.bags.items c.self.inside.places (vec_capacity c.self.inside.arrivals - vec_len c.self.inside.arrivals) c.shift_to_bag.new.bags.free

pair : (c : goal.After-shift_to_bag) → (slot_in c.shift_to_bag.new.bags.items c.args.id).body.tick ≡ (slot (the_view c.self.inside) c.args.id).body.tick → (slot_in c.shift_to_bag.new.bags.items c.args.id).body.owed ≡ (slot (the_view c.self.inside) c.args.id).body.owed
    → OnePair (the_view c.self.inside) c.shift_to_bag.new.spots.items c.shift_to_bag.new.bags.items c.self.inside.places (vec_capacity c.self.inside.arrivals - vec_len c.self.inside.arrivals) c.shift_to_bag.new.bags.free c.args.i c.args.id c.args.c (slot_in c.shift_to_bag.new.bags.items c.args.id).body (spot_in c.shift_to_bag.new.spots.items c.args.i)
pair c tick owed =
    let target : IsTarget c.args.id (bag_of (the_view c.self.inside) c.args.id).chunks (the_view c.self.inside) = rw (← c.self.view_is) at c.requires.target in
    record {
      each_spot = c.shift_to_bag.ensures.spots;
      each_bag = c.shift_to_bag.ensures.sets.slots;
      spots_long = omega arith;
      bags_long = omega arith;
      timely = c.shift_to_bag.ensures.to_timely;
      spot_timely = c.shift_to_bag.ensures.timely;
      tick = tick;
      owed = owed;
      more_spare = omega arith;
      more_slots = omega (arith, c.shift_to_bag.ensures.sets.len, c.shift_to_bag.ensures.sets.free);
      at_spot = rw (← c.self.view_is) at c.requires.spot;
      at_bag = rw (← c.self.view_is) at c.requires.home;
      not_taken = here_not_taken c.args.id (the_view c.self.inside) c.self.invariant (target_here c.args.id (bag_of (the_view c.self.inside) c.args.id).chunks (the_view c.self.inside) target);
    }

draws : (c : goal.After-shift_to_bag) → Spotted (the_view c.self.inside) (after c) → ((q : ChunkPos) → IsGathered (the_view c.self.inside) c.args.id q → IsGathered (after c) c.args.id q) → Drawn c.args.id (bag_of (the_view c.self.inside) c.args.id).chunks (the_view c.self.inside) (after c)
draws c spotted keeps = record {
  sound = spotted.sound;
  draws = record {
    same = spotted.same;
    arrivals = refl;
    own = ap (λ (f : ℕ → Bag). f c.args.id) spotted.bags;
    others = others_same c.args.id (bag_of (the_view c.self.inside) c.args.id).chunks (bag_of (the_view c.self.inside)) (bag_of (after c)) spotted.bags;
    gathered = keeps;
  };
}

step : (c : goal.After-shift_to_bag) → Drawn c.args.id (bag_of (the_view c.self.inside) c.args.id).chunks (the_view c.self.inside) (after c)
step c =
    elim (answer_cases c.shift_to_bag.result) [
      | inl w ↦
          let loses : Loses (c.args.c ∷ []) (spot_in c.self.inside.spots.items c.args.i) (spot_in c.shift_to_bag.new.spots.items c.args.i) = rw w.1 at c.shift_to_bag.ensures.loses in
          let gains : Gains (c.args.c ∷ []) (spot_in c.self.inside.spots.items c.args.i) (slot_in c.self.inside.bags.items c.args.id).body (slot_in c.shift_to_bag.new.bags.items c.args.id).body = rw w.1 at c.shift_to_bag.ensures.gains in
          let p = pair c gains.tick gains.owed in
          draws c
          (from_spot (the_view c.self.inside) _ _ _ _ _ c.args.i c.args.id c.args.c _ _ p c.self.invariant (c.args.c ∷ []) (single-is c.args.c) (λ q. refl) loses gains)
          (keeps_gathered (the_view c.self.inside) _ _ _ _ _ c.args.i c.args.id c.args.c _ _ p c.self.invariant (c.args.c ∷ []) (single-is c.args.c) (λ q. refl) loses gains)
      | inr w ↦
          let err : SameThings (spot_in c.self.inside.spots.items c.args.i) (spot_in c.shift_to_bag.new.spots.items c.args.i) = rw w.1 at c.shift_to_bag.ensures.err in
          let to_err : SameThings (slot_in c.self.inside.bags.items c.args.id).body (slot_in c.shift_to_bag.new.bags.items c.args.id).body = rw w.1 at c.shift_to_bag.ensures.to_err in
          let p = pair c to_err.tick to_err.owed in
          draws c
          (from_spot (the_view c.self.inside) _ _ _ _ _ c.args.i c.args.id c.args.c _ _ p c.self.invariant [] (λ q z. (let f : false ≡ true = z in cc)) (λ q. refl) (loses_none _ _ err) (gains_none _ _ _ to_err))
          (keeps_gathered (the_view c.self.inside) _ _ _ _ _ c.args.i c.args.id c.args.c _ _ p c.self.invariant [] (λ q z. (let f : false ≡ true = z in cc)) (λ q. refl) (loses_none _ _ err) (gains_none _ _ _ to_err))
    ]

pub invariant_of-self : goal.invariant_of-self
invariant_of-self c = (step c).sound

pub returns-clause-draws : goal.returns-clause-draws
returns-clause-draws c = rw (← c.self.view_is) (step c).draws

pub returns-clause-gathered : goal.returns-clause-gathered
returns-clause-gathered c =
    let target : IsTarget c.args.id (bag_of (the_view c.self.inside) c.args.id).chunks (the_view c.self.inside) = rw (← c.self.view_is) at c.requires.target in
    elim (answer_cases c.shift_to_bag.result) [
      | inl w ↦
          let loses : Loses (c.args.c ∷ []) (spot_in c.self.inside.spots.items c.args.i) (spot_in c.shift_to_bag.new.spots.items c.args.i) = rw w.1 at c.shift_to_bag.ensures.loses in
          let gains : Gains (c.args.c ∷ []) (spot_in c.self.inside.spots.items c.args.i) (slot_in c.self.inside.bags.items c.args.id).body (slot_in c.shift_to_bag.new.bags.items c.args.id).body = rw w.1 at c.shift_to_bag.ensures.gains in
          let p = pair c gains.tick gains.owed in
          rw w.1 (gathers (the_view c.self.inside) _ _ _ _ _ c.args.i c.args.id c.args.c _ _ p c.self.invariant (c.args.c ∷ []) (single-is c.args.c) (λ q. refl) loses gains (single-self c.args.c) target.empty)
      | inr w ↦ rw w.1 tt
    ]
