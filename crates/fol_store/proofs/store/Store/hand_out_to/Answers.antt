use Rattle.std.proofs.Common.{◌≡◌, ◌-◌, [], ◌∷◌, length, sym, ◌∙◌, ap, subst, arith, vec_len, Some}
use Rattle.std.specs.Vec.{vec_capacity}
use Rattle.fol_store.specs.contracts.store.Store.{the_view}
use Rattle.fol_bags.specs.Slots.{spot_in}
use Rattle.fol_bags.specs.Things.{of_task}
use Rattle.fol_store.specs.Stock.{Stock, place}
use Rattle.fol_store.specs.Steps.{IsNoted}
use Rattle.fol_store.proofs.Arriving.{Changed, spot_same, handed_out, nothing_there, all_before, twice_written}
use Rattle.std.specs.Prelude.{All}
use Rattle.fol_data.specs.Rests.{IsInTime}
use Rattle.fol_store.proofs.store.Store.hand_out_to.Goals as goal

stayed : (c : goal.After-from_residual) → Changed (the_view c.self.inside) (let t : Stock = record (the_view c.self.inside) { spots = c.make_room.new.spots.items } in t)
stayed c =
    let long : length c.make_room.new.spots.items ≡ length c.self.inside.spots.items = omega arith in
    spot_same (the_view c.self.inside) c.make_room.new.spots.items c.args.i c.make_room.ensures.spots c.make_room.ensures.same c.make_room.ensures.timely long c.self.invariant

pub invariant_of-self : goal.invariant_of-self
invariant_of-self c = (stayed c).sound

pub returns-in_err-make_room-clause-same : goal.returns-in_err-make_room-clause-same
returns-in_err-make_room-clause-same c = rw (← c.self.view_is) (stayed c).same

pub queue-requires-clause-fresh : goal.queue-requires-clause-fresh
queue-requires-clause-fresh c =
    c.make_room.ensures.same.things (of_task c.in-Some.dated.task.number)
    ∙ nothing_there (the_view c.self.inside) c.pop.new.self.items c.in-Some.dated c.make_room.new.spots.items 0 c.args.i (spot_in c.make_room.new.spots.items c.args.i) (spot_in c.make_room.new.spots.items c.args.i) c.in-Some.ensures.items c.self.invariant.arrivals_differ c.self.invariant

step : (c : goal.After-queue) → Changed (the_view c.self.inside) (let t : Stock = record (the_view c.self.inside) { arrivals = c.pop.new.self.items; spots = c.queue.new.spots.items; spare = vec_capacity c.pop.new.self - vec_len c.pop.new.self } in t)
step c =
    let long : length c.queue.new.spots.items ≡ length c.self.inside.spots.items = omega (arith, c.queue.ensures.len, c.make_room.ensures.len) in
    let mine : c.args.c ≡ c.in-Some.dated.task.chunk = (rw (← c.self.view_is) at c.requires.last) c.pop.new.self.items c.in-Some.dated c.in-Some.ensures.items in
    let there : (place (the_view c.self.inside) c.args.c).spot ≡ Some c.args.i = rw (← c.self.view_is) at c.requires.spot in
    let noted : IsNoted (the_view c.self.inside) c.args.c = rw (← c.self.view_is) at c.requires.noted in
    let in_time : All (IsInTime 0) c.pop.new.self.items = all_before (IsInTime 0) c.pop.new.self.items (c.in-Some.dated ∷ []) (subst (All (IsInTime 0)) c.in-Some.ensures.items c.self.invariant.arrival_times) in
    handed_out (the_view c.self.inside) c.pop.new.self.items c.in-Some.dated c.queue.new.spots.items (vec_capacity c.pop.new.self - vec_len c.pop.new.self) c.args.i (spot_in c.make_room.new.spots.items c.args.i) (spot_in c.queue.new.spots.items c.args.i) c.in-Some.ensures.items c.self.invariant.arrivals_differ c.self.invariant
    (twice_written c.args.i (spot_in c.self.inside.spots.items) (spot_in c.make_room.new.spots.items) (spot_in c.queue.new.spots.items) c.make_room.ensures.spots c.queue.ensures.spots)
    c.make_room.ensures.same c.queue.ensures.queued (ap (λ z. (place (the_view c.self.inside) z).spot) (sym mine) ∙ there) (subst (IsNoted (the_view c.self.inside)) mine noted) c.queue.ensures.timely long in_time (omega (arith, c.in-Some.ensures.len, c.in-Some.ensures.capacity))

pub invariant_of-self-in-Some : goal.invariant_of-self-in-Some
invariant_of-self-in-Some c = (step c).sound

pub returns-clause-same : goal.returns-clause-same
returns-clause-same c = rw (← c.self.view_is) (step c).same
