use Rattle.std.proofs.Common.{◌≡◌, ◌-◌, true, length, sym, ◌∙◌, ap, arith, vec_len, Some}
use Rattle.std.specs.Vec.{vec_capacity}
use Rattle.fol_chunks.specs.Contents.{is_recorded}
use Rattle.fol_store.specs.contracts.store.Store.{the_view}
use Rattle.fol_store.specs.Bag.{Bag, put_back}
use Rattle.fol_bags.specs.Things.{Key, Thing, things, chunk_at, IsTimely}
use Rattle.fol_store.specs.Stock.{slot, found, next_of, bag_of}
use Rattle.fol_bags.proofs.OpenBags.{taken_open}
use Rattle.fol_store.proofs.BagSteps.{bag_slot, bags_shown}
use Rattle.fol_store.proofs.Putting.{filled, there, apart_found, put_sound, put_contents, put_tasks}
use Rattle.fol_store.proofs.store.Store.put.Goals as goal

pub put_in-requires : goal.put_in-requires
put_in-requires c =
    let h : (slot (the_view c.self.inside) c.args.id).taken ≡ true = sym (ap (λ (b : Bag). b.taken) (bag_slot (the_view c.self.inside) c.args.id)) ∙ (rw (← c.self.view_is) at c.requires.taken) in
    taken_open c.self.inside.bags.items c.args.id h

taken : (c : goal.After-put_in) → (slot (the_view c.self.inside) c.args.id).taken ≡ true
taken c = sym (ap (λ (b : Bag). b.taken) (bag_slot (the_view c.self.inside) c.args.id)) ∙ (rw (← c.self.view_is) at c.requires.taken)

same : (c : goal.After-put_in) → c.args.chunks ≡ (slot (the_view c.self.inside) c.args.id).chunks
same c =
    let e : c.args.chunks ≡ (bag_of (the_view c.self.inside) c.args.id).chunks = rw (← c.self.view_is) at c.requires.chunks in
    e ∙ ap (λ (b : Bag). b.chunks) (bag_slot (the_view c.self.inside) c.args.id)

all_there : (c : goal.After-put_in) → (k : Key) (x : Thing k) → things c.args.body k ≡ Some x → is_recorded (slot (the_view c.self.inside) c.args.id).chunks (chunk_at k x) ≡ true
all_there c k x q = sym (ap (λ l. is_recorded l (chunk_at k x)) (same c)) ∙ there (is_recorded c.args.chunks) c.args.body c.requires.contents_there c.requires.tasks_there k x q

apart : (c : goal.After-put_in) → (k : Key) (x y : Thing k) → things c.args.body k ≡ Some x → found (the_view c.self.inside) k ≡ Some y → ⊥
apart c = apart_found (the_view c.self.inside) c.args.body (rw (← c.self.view_is) at c.requires.contents_apart) (rw (← c.self.view_is) at c.requires.tasks_apart)

pub invariant_of-self : goal.invariant_of-self
invariant_of-self c =
    let long : length c.put_in.new.bags.items ≡ length c.self.inside.bags.items = omega arith in
    let timely : IsTimely c.args.body = record { tick = c.requires.bound; in_time = c.requires.in_time } in
    put_sound (the_view c.self.inside) c.put_in.new.bags.items _ _ c.args.id c.args.body c.args.chunks c.put_in.ensures.sets.slots (same c) (taken c) c.self.invariant (all_there c) (apart c) long timely

pub returns-clause-contents : goal.returns-clause-contents
returns-clause-contents c =
    rw (← c.self.view_is) (put_contents (the_view c.self.inside) c.put_in.new.bags.items (vec_capacity c.self.inside.arrivals - vec_len c.self.inside.arrivals) c.put_in.new.bags.free c.args.id c.args.body c.args.chunks c.put_in.ensures.sets.slots (same c) (taken c) c.self.invariant (all_there c) (apart c))

pub returns-clause-tasks : goal.returns-clause-tasks
returns-clause-tasks c =
    rw (← c.self.view_is) (put_tasks (the_view c.self.inside) c.put_in.new.bags.items (vec_capacity c.self.inside.arrivals - vec_len c.self.inside.arrivals) c.put_in.new.bags.free c.args.id c.args.body c.args.chunks c.put_in.ensures.sets.slots (same c) (taken c) c.self.invariant (all_there c) (apart c))

pub returns-clause-bags : goal.returns-clause-bags
returns-clause-bags c =
    rw (← c.self.view_is) (bags_shown (the_view c.self.inside) c.put_in.new.bags.items (vec_capacity c.self.inside.arrivals - vec_len c.self.inside.arrivals) c.put_in.new.bags.free c.args.id (filled (the_view c.self.inside) c.put_in.new.bags.items 0 0 c.args.id c.args.body c.args.chunks) (put_back c.args.body.tick c.args.body.owed (bag_of (the_view c.self.inside) c.args.id)) c.put_in.ensures.sets.slots (ap (put_back c.args.body.tick c.args.body.owed) (sym (bag_slot (the_view c.self.inside) c.args.id))))

pub returns-clause-next : goal.returns-clause-next
unfolding next_of
returns-clause-next c =
    let long : length c.put_in.new.bags.items ≡ length c.self.inside.bags.items = omega arith in
    rw (← c.self.view_is) long
