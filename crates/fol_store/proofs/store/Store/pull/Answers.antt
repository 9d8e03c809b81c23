use Rattle.std.proofs.Common.{◌≡◌, ◌-◌, true, false, [], refl, ◌∙◌, ap, arith, vec_len, Some}
use Rattle.std.specs.Vec.{vec_capacity}
use Rattle.fol_store.specs.contracts.store.Store.{the_view}
use Rattle.fol_bags.specs.declared.places.Place.{Place}
use Rattle.fol_bags.specs.Slots.{slot_in}
use Rattle.fol_store.specs.Stock.{slot, place, in_bag}
use Rattle.fol_store.specs.Steps.{IsTarget}
use Rattle.fol_bags.proofs.OpenBags.{here_range, here_open}
use Rattle.fol_store.proofs.Drawing.{Drawn, drawn_bag, with_parts, loses_none, gains_none}
use Rattle.fol_bags.proofs.Homes.{rehomed-moves}
use Rattle.fol_store.proofs.Stepping.{target_here, target_not_listed, target_listed, source_not_taken}
use Rattle.fol_store.proofs.store.Store.pull.Goals as goal

pub shift_bags-requires-clause-to_open : goal.shift_bags-requires-clause-to_open
shift_bags-requires-clause-to_open c =
    let target : IsTarget c.args.id c.args.chunks.now (the_view c.self.inside) = rw (← c.self.view_is) at c.requires.target in
    here_open c.self.inside.bags.items c.args.id (target_here c.args.id c.args.chunks.now (the_view c.self.inside) target)

pub shift_bags-requires-clause-apart : goal.shift_bags-requires-clause-apart
shift_bags-requires-clause-apart c = λ k x y p q.
    let e : in_bag c.args.from ≡ in_bag c.args.id = c.self.invariant.unique k (in_bag c.args.from) (in_bag c.args.id) x y p q in
    let f : c.args.from ≡ c.args.id = cc in c.requires.apart f

moved : (c : goal.After-rehome) → Drawn c.args.id c.args.chunks.now (the_view c.self.inside) (with_parts (the_view c.self.inside) c.self.inside.spots.items c.shift_bags.new.bags.items c.rehome.new.self (vec_capacity c.self.inside.arrivals - vec_len c.self.inside.arrivals) c.shift_bags.new.bags.free)
moved c =
    let target : IsTarget c.args.id c.args.chunks.now (the_view c.self.inside) = rw (← c.self.view_is) at c.requires.target in
    let named : (place (the_view c.self.inside) c.args.c).bag ≡ Some c.args.from = rw (← c.self.view_is) at c.requires.named in
    let here : (slot (the_view c.self.inside) c.args.id).here ≡ true = target_here c.args.id c.args.chunks.now (the_view c.self.inside) target in
    drawn_bag (the_view c.self.inside) c.shift_bags.new.bags.items c.rehome.new.self _ _ c.args.from c.args.id c.args.chunks.now (slot_in c.shift_bags.new.bags.items c.args.from).body (slot_in c.shift_bags.new.bags.items c.args.id).body
    (record {
      pours = record {
        each = c.shift_bags.ensures.sets.slots;
        loses = c.in-Ok.ensures.loses;
        gains = c.in-Ok.ensures.gains;
        homes = c.rehome.ensures;
        apart = c.requires.apart;
        long = omega arith;
        there = here_range c.self.inside.bags.items c.args.id here;
        timely = c.shift_bags.ensures.timely;
        to_timely = c.shift_bags.ensures.to_timely;
      };
      here = here;
      not_listed = target_not_listed c.args.id c.args.chunks.now (the_view c.self.inside) target;
      listed = target_listed c.args.id c.args.chunks.now (the_view c.self.inside) target;
      not_taken = source_not_taken c.args.id c.args.from c.args.chunks.now (the_view c.self.inside) target c.self.invariant c.args.c c.requires.listed named;
      more_spare = omega arith;
      more_slots = omega (arith, c.shift_bags.ensures.sets.len, c.shift_bags.ensures.sets.free);
    })
    c.self.invariant c.args.chunks.now c.args.c c.requires.listed named

stayed : (c : goal.In-Err) → Drawn c.args.id c.args.chunks.now (the_view c.self.inside) (with_parts (the_view c.self.inside) c.self.inside.spots.items c.shift_bags.new.bags.items c.self.inside.places (vec_capacity c.self.inside.arrivals - vec_len c.self.inside.arrivals) c.shift_bags.new.bags.free)
stayed c =
    let target : IsTarget c.args.id c.args.chunks.now (the_view c.self.inside) = rw (← c.self.view_is) at c.requires.target in
    let named : (place (the_view c.self.inside) c.args.c).bag ≡ Some c.args.from = rw (← c.self.view_is) at c.requires.named in
    let here : (slot (the_view c.self.inside) c.args.id).here ≡ true = target_here c.args.id c.args.chunks.now (the_view c.self.inside) target in
    drawn_bag (the_view c.self.inside) c.shift_bags.new.bags.items c.self.inside.places _ _ c.args.from c.args.id [] (slot_in c.shift_bags.new.bags.items c.args.from).body (slot_in c.shift_bags.new.bags.items c.args.id).body
    (record {
      pours = record {
        each = c.shift_bags.ensures.sets.slots;
        loses = loses_none _ _ c.in-Err.ensures.err;
        gains = gains_none _ _ _ c.in-Err.ensures.to_err;
        homes = λ q. refl;
        apart = c.requires.apart;
        long = omega arith;
        there = here_range c.self.inside.bags.items c.args.id here;
        timely = c.shift_bags.ensures.timely;
        to_timely = c.shift_bags.ensures.to_timely;
      };
      here = here;
      not_listed = target_not_listed c.args.id c.args.chunks.now (the_view c.self.inside) target;
      listed = λ q z. (let f : false ≡ true = z in cc);
      not_taken = source_not_taken c.args.id c.args.from c.args.chunks.now (the_view c.self.inside) target c.self.invariant c.args.c c.requires.listed named;
      more_spare = omega arith;
      more_slots = omega (arith, c.shift_bags.ensures.sets.len, c.shift_bags.ensures.sets.free);
    })
    c.self.invariant c.args.chunks.now c.args.c c.requires.listed named

pub invariant_of-self : goal.invariant_of-self
invariant_of-self c = (moved c).sound

pub invariant_of-self-in-Err : goal.invariant_of-self-in-Err
invariant_of-self-in-Err c = (stayed c).sound

pub returns-in-Ok-clause-draws : goal.returns-in-Ok-clause-draws
returns-in-Ok-clause-draws c = rw (← c.self.view_is) (moved c).draws

pub returns-in-Err-clause-draws : goal.returns-in-Err-clause-draws
returns-in-Err-clause-draws c = rw (← c.self.view_is) (stayed c).draws

pub returns-in-Ok-clause-home : goal.returns-in-Ok-clause-home
returns-in-Ok-clause-home c =
    let named : (place (the_view c.self.inside) c.args.c).bag ≡ Some c.args.from = rw (← c.self.view_is) at c.requires.named in
    ap (λ (p : Place). p.bag) (c.rehome.ensures c.args.c) ∙ rehomed-moves c.args.chunks.now c.args.from c.args.id c.args.c (place (the_view c.self.inside) c.args.c) c.requires.listed named
