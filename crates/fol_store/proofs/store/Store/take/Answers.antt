use Rattle.std.proofs.Common.{◌≡◌, ◌+◌, ◌-◌, ◌≤◌, ◌^◌, ◌&&◌, true, length, refl, sym, ◌∙◌, ap, arith, vec_len, lit≤, None}
use Rattle.std.specs.Vec.{vec_capacity}
use Rattle.std.proofs.lemmas.Bool.{and_parts}
use Rattle.fol_data.specs.declared.region_data.RegionData.{RegionData}
use Rattle.fol_store.specs.contracts.store.Store.{the_view}
use Rattle.fol_store.specs.Bag.{Bag, taken_out}
use Rattle.fol_bags.specs.Slots.{slot_in}
use Rattle.fol_bags.specs.Things.{Key, things, IsTimely}
use Rattle.fol_queues.specs.Waiting.{due_count}
use Rattle.fol_store.specs.Stock.{slot, shown, next_of, bag_of, due_by}
use Rattle.fol_bags.proofs.Empty.{things_none, timely_empty}
use Rattle.fol_bags.proofs.OpenBags.{here_open}
use Rattle.fol_store.proofs.BagSteps.{bag_slot, bags_shown}
use Rattle.fol_store.proofs.Stepping.{listed_here}
use Rattle.fol_store.proofs.Taking.{emptied, taken_sound, taken_contents, taken_tasks}
use Rattle.fol_store.proofs.WholeBag.{body_contents, body_tasks}
use Rattle.fol_store.proofs.store.Store.take.Goals as goal

pub take_out-requires : goal.take_out-requires
take_out-requires c =
    let h : (slot (the_view c.self.inside) c.args.id).here ≡ true = sym (ap (λ (b : Bag). b.here) (bag_slot (the_view c.self.inside) c.args.id)) ∙ (rw (← c.self.view_is) at c.requires.here) in
    here_open c.self.inside.bags.items c.args.id h

here : (c : goal.After-take_out) → (slot (the_view c.self.inside) c.args.id).here ≡ true
here c = sym (ap (λ (b : Bag). b.here) (bag_slot (the_view c.self.inside) c.args.id)) ∙ (rw (← c.self.view_is) at c.requires.here)

whole : (c : goal.After-take_out) → ((slot (the_view c.self.inside) c.args.id).listed && (slot (the_view c.self.inside) c.args.id).calm) ≡ true
unfolding bag_of
whole c = rw (← c.self.view_is) at c.requires.whole

listed : (c : goal.After-take_out) → (slot (the_view c.self.inside) c.args.id).listed ≡ true
listed c = (and_parts (slot (the_view c.self.inside) c.args.id).listed (slot (the_view c.self.inside) c.args.id).calm (whole c)).0

calm : (c : goal.After-take_out) → (slot (the_view c.self.inside) c.args.id).calm ≡ true
calm c = (and_parts (slot (the_view c.self.inside) c.args.id).listed (slot (the_view c.self.inside) c.args.id).calm (whole c)).1

-- what is left in the bag
abbrev rest : goal.After-take_out → RegionData
rest c = (slot_in c.take_out.new.bags.items c.args.id).body

empty : (c : goal.After-take_out) → (k : Key) → things (rest c) k ≡ None
empty c k = c.take_out.ensures.left.things k ∙ things_none k

pub invariant_of-self : goal.invariant_of-self
invariant_of-self c =
    let long : length c.take_out.new.bags.items ≡ length c.self.inside.bags.items = omega arith in
    let small : (rest c).tick ≤ 2 ^ 62 = rw c.take_out.ensures.left.tick (lit≤ tt) in
    taken_sound (the_view c.self.inside) c.take_out.new.bags.items _ _ c.args.id (rest c) c.take_out.ensures.sets.slots (empty c) c.self.invariant (listed c) (calm c) long (timely_empty (rest c) small c.take_out.ensures.tasks)

pub returns-clause-chunks : goal.returns-clause-chunks
returns-clause-chunks c =
    rw (← c.self.view_is) (c.take_out.ensures.list ∙ listed_here c.args.id (the_view c.self.inside) c.self.invariant (here c) ∙ sym (ap (λ (b : Bag). b.chunks) (bag_slot (the_view c.self.inside) c.args.id)))

pub returns-clause-tick : goal.returns-clause-tick
returns-clause-tick c =
    rw (← c.self.view_is) (ap (λ (r : RegionData). r.tick) c.take_out.ensures.body ∙ shown_tick (here c) ∙ sym (ap (λ (b : Bag). b.tick) (bag_slot (the_view c.self.inside) c.args.id)))
  where
    shown_tick : (slot (the_view c.self.inside) c.args.id).here ≡ true → (slot (the_view c.self.inside) c.args.id).body.tick ≡ (shown (slot (the_view c.self.inside) c.args.id)).tick
    shown_tick e = rw e refl

pub returns-clause-owed : goal.returns-clause-owed
returns-clause-owed c =
    rw (← c.self.view_is) (ap (λ (r : RegionData). r.owed) c.take_out.ensures.body ∙ shown_owed (here c) ∙ sym (ap (λ (b : Bag). b.owed) (bag_slot (the_view c.self.inside) c.args.id)))
  where
    shown_owed : (slot (the_view c.self.inside) c.args.id).here ≡ true → (slot (the_view c.self.inside) c.args.id).body.owed ≡ (shown (slot (the_view c.self.inside) c.args.id)).owed
    shown_owed e = rw e refl

timely : (c : goal.After-take_out) → IsTimely c.take_out.result.body
timely c = rw c.take_out.ensures.body (c.self.invariant.bag_times c.args.id)

pub returns-clause-bound : goal.returns-clause-bound
returns-clause-bound c = (timely c).tick

pub returns-clause-in_time : goal.returns-clause-in_time
returns-clause-in_time c = (timely c).in_time

pub returns-clause-moved_contents : goal.returns-clause-moved_contents
unfolding bag_of
returns-clause-moved_contents c =
    rw (← c.self.view_is, c.take_out.ensures.body) (body_contents (the_view c.self.inside) c.args.id c.self.invariant (listed c) (calm c))

pub returns-clause-moved_tasks : goal.returns-clause-moved_tasks
unfolding bag_of
returns-clause-moved_tasks c =
    rw (← c.self.view_is, c.take_out.ensures.body) (body_tasks (the_view c.self.inside) c.args.id c.self.invariant (listed c) (calm c))

pub returns-clause-contents : goal.returns-clause-contents
unfolding bag_of
returns-clause-contents c =
    rw (← c.self.view_is) (taken_contents (the_view c.self.inside) c.take_out.new.bags.items (vec_capacity c.self.inside.arrivals - vec_len c.self.inside.arrivals) c.take_out.new.bags.free c.args.id (rest c) c.take_out.ensures.sets.slots (empty c) c.self.invariant (listed c) (calm c))

pub returns-clause-tasks : goal.returns-clause-tasks
unfolding bag_of
returns-clause-tasks c =
    rw (← c.self.view_is) (taken_tasks (the_view c.self.inside) c.take_out.new.bags.items (vec_capacity c.self.inside.arrivals - vec_len c.self.inside.arrivals) c.take_out.new.bags.free c.args.id (rest c) c.take_out.ensures.sets.slots (empty c) c.self.invariant (listed c) (calm c))

pub returns-clause-bags : goal.returns-clause-bags
returns-clause-bags c =
    rw (← c.self.view_is) (bags_shown (the_view c.self.inside) c.take_out.new.bags.items (vec_capacity c.self.inside.arrivals - vec_len c.self.inside.arrivals) c.take_out.new.bags.free c.args.id (emptied (the_view c.self.inside) c.take_out.new.bags.items 0 0 c.args.id (rest c)) (taken_out (bag_of (the_view c.self.inside) c.args.id)) c.take_out.ensures.sets.slots (ap taken_out (sym (bag_slot (the_view c.self.inside) c.args.id))))

pub returns-clause-next : goal.returns-clause-next
unfolding next_of
returns-clause-next c =
    let long : length c.take_out.new.bags.items ≡ length c.self.inside.bags.items = omega arith in
    rw (← c.self.view_is) long

pub returns-clause-due : goal.returns-clause-due
unfolding due_by
returns-clause-due c = rw (← c.self.view_is) (ap (λ (r : RegionData). due_count (r.tick + 1) r.queues) c.take_out.ensures.body)
