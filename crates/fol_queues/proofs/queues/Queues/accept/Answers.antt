use Rattle.std.proofs.Common.{◌+◌, arith}
use Rattle.fol_queues.proofs.Coming.{joins_beside}
use Rattle.fol_queues.proofs.Queued.{accepts, accepts_distinct}
use Rattle.fol_queues.proofs.queues.Queues.accept.Goals as goal

pub invariant_of-self : goal.invariant_of-self
invariant_of-self c = record {
  distinct = accepts_distinct _ _ (record { task = c.args.task; deadline = c.args.begun + c.args.delay }) c.self.invariant.distinct (rw (← c.self.view_is) at c.requires.fresh) (joins_beside _ _ _ c.self.inside.deadline _ c.push.ensures.same);
  heap = c.push.ensures.order;
  rising = c.self.invariant.rising;
  room = omega (arith, rw (← c.self.view_is) at c.requires.spare, c.push.ensures.capacity, c.push.ensures.len);
}

pub returns-clause-tasks : goal.returns-clause-tasks
returns-clause-tasks c =
    rw (← c.self.view_is) (accepts _ _ (record { task = c.args.task; deadline = c.args.begun + c.args.delay }) c.self.invariant.distinct (rw (← c.self.view_is) at c.requires.fresh) (joins_beside _ _ _ c.self.inside.deadline _ c.push.ensures.same))
