use Rattle.std.proofs.Common.{◌≡◌, ap, arith, length}
use Rattle.fol_queues.specs.Again.{with_again}
use Rattle.fol_queues.specs.Waiting.{is_due}
use Rattle.fol_queues.proofs.Coming.{length_with_again, without_again}
use Rattle.fol_queues.proofs.Queued.{left_of, left_distinct, takes, takes_count, takes_len}
use Rattle.fol_queues.proofs.queues.Queues.take_due.Goals as goal

-- none that came back is left
left : (c : goal.After-take_due) → with_again c.take_due.new.tasks.items c.take_due.new.again.items c.self.inside.deadline ≡ c.take_due.new.tasks.items
left c = without_again c.take_due.new.tasks.items c.take_due.new.again.items c.self.inside.deadline c.take_due.ensures.none

pub invariant_of-self : goal.invariant_of-self
invariant_of-self c = record {
  distinct = rw (left c) (left_distinct _ (is_due c.args.now) _ _ c.take_due.ensures.parted.parted c.self.invariant.distinct);
  heap = c.take_due.ensures.order;
  rising = rw c.take_due.ensures.none tt;
  room = omega (arith, ap length c.take_due.ensures.none);
}

pub returns-clause-left : goal.returns-clause-left
returns-clause-left c = rw (← c.self.view_is, left c) (left_of _ (is_due c.args.now) _ _ c.take_due.ensures.parted.parted c.self.invariant.distinct)

pub returns-clause-taken : goal.returns-clause-taken
returns-clause-taken c = rw (← c.self.view_is) (takes _ c.args.now _ _ c.take_due.ensures.parted c.self.invariant.distinct)

pub returns-clause-len : goal.returns-clause-len
returns-clause-len c = rw (← c.self.view_is, left c) (takes_len _ c.args.now _ _ c.take_due.ensures.parted)

pub returns-clause-count : goal.returns-clause-count
returns-clause-count c = rw (← c.self.view_is) (takes_count _ c.args.now _ _ c.take_due.ensures.parted)

pub returns-clause-spare : goal.returns-clause-spare
returns-clause-spare c =
    let len = takes_len _ c.args.now _ _ c.take_due.ensures.parted in
    let none = ap length c.take_due.ensures.none in
    rw (← c.self.view_is)
    (omega (arith, none, len, c.take_due.ensures.capacity, length_with_again c.self.inside.tasks.items c.self.inside.again.items c.self.inside.deadline))
