use Rattle.std.proofs.Common.{◌≡◌, ◌-◌, [], ◌∷◌, length, sym, ◌∙◌, ap, subst, arith, vec_len, Some}
use Rattle.std.specs.Prelude.{All}
use Rattle.std.specs.Vec.{vec_capacity}
use Rattle.fol_data.specs.Rests.{IsInTime}
use Rattle.fol_store.specs.contracts.store.Store.{the_view}
use Rattle.fol_bags.specs.Slots.{slot_in}
use Rattle.fol_store.specs.Stock.{Stock, in_bag, place}
use Rattle.fol_store.specs.Steps.{TakesTask}
use Rattle.fol_store.proofs.Arriving.{Changed, all_before, nowhere_else}
use Rattle.fol_store.proofs.Delivering.{delivered, delivered_bags}
use Rattle.fol_store.proofs.store.Store.deliver.Goals as goal

pub queue-requires-clause-fresh : goal.queue-requires-clause-fresh
queue-requires-clause-fresh c =
    nowhere_else (the_view c.self.inside) c.pop.new.self.items c.in-Some.dated c.in-Some.ensures.items c.self.invariant.arrivals_differ c.self.invariant (in_bag c.args.id) (λ e. cc)

takes : (c : goal.After-queue) → TakesTask (the_view c.self.inside) c.args.c c.args.id
takes c = rw (← c.self.view_is) at c.requires.takes

home : (c : goal.After-queue) → (place (the_view c.self.inside) c.in-Some.dated.task.chunk).bag ≡ Some c.args.id
home c =
    let mine : c.args.c ≡ c.in-Some.dated.task.chunk = (rw (← c.self.view_is) at c.requires.last) c.pop.new.self.items c.in-Some.dated c.in-Some.ensures.items in
    ap (λ z. (place (the_view c.self.inside) z).bag) (sym mine) ∙ (takes c).home

abbrev after : goal.After-queue → Stock
after c = record (the_view c.self.inside) { arrivals = c.pop.new.self.items; bags = c.queue.new.bags.items; spare = vec_capacity c.pop.new.self - vec_len c.pop.new.self; slots = c.queue.new.bags.free }

step : (c : goal.After-queue) → Changed (the_view c.self.inside) (after c)
step c =
    let r = slot_in c.queue.new.bags.items c.args.id in
    let long : length c.queue.new.bags.items ≡ length c.self.inside.bags.items = omega arith in
    let in_time : All (IsInTime 0) c.pop.new.self.items = all_before (IsInTime 0) c.pop.new.self.items (c.in-Some.dated ∷ []) (subst (All (IsInTime 0)) c.in-Some.ensures.items c.self.invariant.arrival_times) in
    delivered (the_view c.self.inside) c.pop.new.self.items c.in-Some.dated c.queue.new.bags.items (vec_capacity c.pop.new.self - vec_len c.pop.new.self) c.queue.new.bags.free c.args.id r.body c.in-Some.ensures.items
    c.queue.ensures.sets.slots c.self.invariant c.queue.ensures.queued (home c) (takes c).here c.queue.ensures.timely long in_time (omega (arith, c.in-Some.ensures.len, c.in-Some.ensures.capacity)) (omega (arith, c.queue.ensures.sets.free))

pub invariant_of-self : goal.invariant_of-self
invariant_of-self c = (step c).sound

pub returns-clause-same : goal.returns-clause-same
returns-clause-same c = rw (← c.self.view_is) (step c).same

pub returns-clause-bags : goal.returns-clause-bags
returns-clause-bags c =
    let r = slot_in c.queue.new.bags.items c.args.id in
    rw (← c.self.view_is) (delivered_bags (the_view c.self.inside) c.pop.new.self.items c.in-Some.dated c.queue.new.bags.items (vec_capacity c.pop.new.self - vec_len c.pop.new.self) c.queue.new.bags.free c.args.id r.body c.in-Some.ensures.items
    c.queue.ensures.sets.slots c.self.invariant c.queue.ensures.queued (home c) (takes c).here)
