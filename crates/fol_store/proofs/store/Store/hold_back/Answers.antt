use Rattle.std.proofs.Common.{◌≡◌, ◌-◌, length, arith, vec_len, None}
use Rattle.std.specs.Vec.{vec_capacity}
use Rattle.fol_queues.specs.declared.dated.Dated.{Dated}
use Rattle.fol_data.specs.Rests.{IsInTime}
use Rattle.fol_store.specs.contracts.store.Store.{the_view}
use Rattle.fol_bags.specs.Places.{place_at}
use Rattle.fol_bags.specs.Things.{of_task}
use Rattle.fol_store.specs.Stock.{found, next_of}
use Rattle.fol_store.proofs.Accepting.{accepted, accepted_tasks, accepted_contents, accepted_bags, fresh_found}
use Rattle.fol_store.proofs.store.Store.hold_back.Goals as goal

-- the task with its rest
abbrev come : goal.After-disturb → Dated
come c = record { task = c.args.task; deadline = c.args.delay }

none : (c : goal.After-disturb) → found (the_view c.self.inside) (of_task c.args.task.number) ≡ None
none c = fresh_found (the_view c.self.inside) c.args.task.number (rw (← c.self.view_is) at c.requires.fresh)

there : (c : goal.After-disturb) → c.args.place ≡ place_at c.self.inside.places c.args.task.chunk
there c = rw (← c.self.view_is) at c.requires.there

pub invariant_of-self : goal.invariant_of-self
invariant_of-self c =
    let long : length c.disturb.new.bags.items ≡ length c.self.inside.bags.items = omega arith in
    let in_time : IsInTime 0 (come c) = record { low = omega (arith, c.requires.delay_low); high = omega (arith, c.requires.delay_high) } in
    rw c.push_reserved.ensures.items (accepted (the_view c.self.inside) (come c) c.disturb.new.bags.items _ _ (rw (there c) at c.disturb.ensures.slots) (none c) c.self.invariant long in_time)

pub returns-clause-tasks : goal.returns-clause-tasks
returns-clause-tasks c =
    rw (← c.self.view_is, c.push_reserved.ensures.items) (accepted_tasks (the_view c.self.inside) (come c) c.disturb.new.bags.items (vec_capacity c.push_reserved.new.self - vec_len c.push_reserved.new.self) c.disturb.new.bags.free (rw (there c) at c.disturb.ensures.slots) (none c) c.self.invariant)

pub returns-clause-contents : goal.returns-clause-contents
returns-clause-contents c =
    rw (← c.self.view_is, c.push_reserved.ensures.items) (accepted_contents (the_view c.self.inside) (come c) c.disturb.new.bags.items (vec_capacity c.push_reserved.new.self - vec_len c.push_reserved.new.self) c.disturb.new.bags.free (rw (there c) at c.disturb.ensures.slots) (none c) c.self.invariant)

pub returns-clause-bags : goal.returns-clause-bags
returns-clause-bags c =
    rw (← c.self.view_is, c.push_reserved.ensures.items) (accepted_bags (the_view c.self.inside) (come c) c.disturb.new.bags.items (vec_capacity c.push_reserved.new.self - vec_len c.push_reserved.new.self) c.disturb.new.bags.free (rw (there c) at c.disturb.ensures.slots) (none c) c.self.invariant)

pub returns-clause-next : goal.returns-clause-next
unfolding next_of
returns-clause-next c =
    let long : length c.disturb.new.bags.items ≡ length c.self.inside.bags.items = omega arith in
    rw (← c.self.view_is) long
