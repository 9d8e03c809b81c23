use Rattle.std.proofs.Common.{◌≡◌, ◌-◌, length, arith, vec_len, None}
use Rattle.std.specs.Vec.{vec_capacity}
use Rattle.fol_queues.specs.declared.dated.Dated.{Dated}
use Rattle.fol_store.specs.contracts.store.Store.{the_view}
use Rattle.fol_bags.specs.Slots.{slot_in}
use Rattle.fol_bags.specs.Things.{of_task}
use Rattle.fol_store.specs.Stock.{in_bag, found, next_of}
use Rattle.fol_store.specs.Steps.{TakesTask}
use Rattle.fol_store.proofs.Accepting.{fresh_found}
use Rattle.fol_store.proofs.Totals.{found_none}
use Rattle.fol_store.proofs.Queuing.{queued_sound, queued_tasks, queued_contents, queued_bags}
use Rattle.fol_bags.proofs.OpenBags.{here_open}
use Rattle.fol_store.proofs.store.Store.queue_in.Goals as goal

-- the task with its rest
abbrev come : goal.After-queue → Dated
come c = record { task = c.args.task; deadline = c.args.delay }

pub queue-requires-clause-open : goal.queue-requires-clause-open
queue-requires-clause-open c =
    let takes : TakesTask (the_view c.self.inside) c.args.task.chunk c.args.id = rw (← c.self.view_is) at c.requires.takes in
    here_open c.self.inside.bags.items c.args.id takes.here

pub queue-requires-clause-fresh : goal.queue-requires-clause-fresh
queue-requires-clause-fresh c =
    let none : found (the_view c.self.inside) (of_task c.args.task.number) ≡ None = fresh_found (the_view c.self.inside) c.args.task.number (rw (← c.self.view_is) at c.requires.fresh) in
    found_none (the_view c.self.inside) (of_task c.args.task.number) none (in_bag c.args.id)

none : (c : goal.After-queue) → found (the_view c.self.inside) (of_task c.args.task.number) ≡ None
none c = fresh_found (the_view c.self.inside) c.args.task.number (rw (← c.self.view_is) at c.requires.fresh)

takes : (c : goal.After-queue) → TakesTask (the_view c.self.inside) c.args.task.chunk c.args.id
takes c = rw (← c.self.view_is) at c.requires.takes

pub invariant_of-self : goal.invariant_of-self
invariant_of-self c =
    let long : length c.queue.new.bags.items ≡ length c.self.inside.bags.items = omega arith in
    let r = slot_in c.queue.new.bags.items c.args.id in
    queued_sound (the_view c.self.inside) c.queue.new.bags.items _ _ c.args.id r.body c.queue.ensures.sets.slots c.self.invariant (come c) c.queue.ensures.queued (takes c).home (takes c).here (none c) c.queue.ensures.timely long

pub returns-clause-tasks : goal.returns-clause-tasks
returns-clause-tasks c =
    let r = slot_in c.queue.new.bags.items c.args.id in
    rw (← c.self.view_is) (queued_tasks (the_view c.self.inside) c.queue.new.bags.items (vec_capacity c.self.inside.arrivals - vec_len c.self.inside.arrivals) c.queue.new.bags.free c.args.id r.body c.queue.ensures.sets.slots c.self.invariant (come c) c.queue.ensures.queued (takes c).home (takes c).here (none c))

pub returns-clause-contents : goal.returns-clause-contents
returns-clause-contents c =
    let r = slot_in c.queue.new.bags.items c.args.id in
    rw (← c.self.view_is) (queued_contents (the_view c.self.inside) c.queue.new.bags.items (vec_capacity c.self.inside.arrivals - vec_len c.self.inside.arrivals) c.queue.new.bags.free c.args.id r.body c.queue.ensures.sets.slots c.self.invariant (come c) c.queue.ensures.queued (takes c).home (takes c).here (none c))

pub returns-clause-bags : goal.returns-clause-bags
returns-clause-bags c =
    let r = slot_in c.queue.new.bags.items c.args.id in
    rw (← c.self.view_is) (queued_bags (the_view c.self.inside) c.queue.new.bags.items (vec_capacity c.self.inside.arrivals - vec_len c.self.inside.arrivals) c.queue.new.bags.free c.args.id r.body c.queue.ensures.sets.slots c.self.invariant (come c) c.queue.ensures.queued (takes c).home (takes c).here (none c))

pub returns-clause-next : goal.returns-clause-next
unfolding next_of
returns-clause-next c =
    let long : length c.queue.new.bags.items ≡ length c.self.inside.bags.items = omega arith in
    rw (← c.self.view_is) long
