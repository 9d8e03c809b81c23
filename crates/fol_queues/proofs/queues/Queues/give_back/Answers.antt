use Rattle.std.proofs.Common.{◌≡◌, ◌+◌, ◌∙◌, ap, arith, length}
use Rattle.std.proofs.lemmas.List.Sorted.{length_permutation}
use Rattle.fol_queues.proofs.Coming.{given_distinct, given_found, length_with_again}
use Rattle.fol_queues.proofs.queues.Queues.give_back.Goals as goal

-- how many the heap has, once those that came back before are in it
counted : (c : goal.After-swap) → length c.put_back.new.tasks.items ≡ length c.self.inside.tasks.items + length c.self.inside.again.items
counted c = length_permutation _ _ c.put_back.ensures.back ∙ length_with_again c.self.inside.tasks.items c.self.inside.again.items c.self.inside.deadline

pub invariant_of-self : goal.invariant_of-self
invariant_of-self c = record {
  distinct =
      rw c.swap.ensures.x_after (given_distinct _ c.put_back.new.tasks.items (c.args.begun + 1) c.args.due.items c.put_back.ensures.back c.self.invariant.distinct c.requires.order (rw (← c.self.view_is) at c.requires.fresh));
  heap = c.put_back.ensures.order;
  rising = rw c.swap.ensures.x_after c.requires.order;
  room = rw c.swap.ensures.x_after (omega (arith, counted c, c.self.invariant.room, rw (← c.self.view_is) at c.requires.spare, c.put_back.ensures.capacity));
}

pub returns-clause-tasks : goal.returns-clause-tasks
returns-clause-tasks c =
    rw (← c.self.view_is, c.swap.ensures.x_after)
    (given_found _ c.put_back.new.tasks.items (c.args.begun + 1) c.args.due.items c.put_back.ensures.back c.self.invariant.distinct c.requires.order (rw (← c.self.view_is) at c.requires.fresh))

pub returns-clause-len : goal.returns-clause-len
returns-clause-len c =
    rw (← c.self.view_is, c.swap.ensures.x_after)
    (omega (arith, counted c, length_with_again c.put_back.new.tasks.items c.args.due.items (c.args.begun + 1), length_with_again c.self.inside.tasks.items c.self.inside.again.items c.self.inside.deadline))

pub returns-clause-spare : goal.returns-clause-spare
returns-clause-spare c = rw (← c.self.view_is) (omega (arith, ap length (ap (λ v. v.items) c.swap.ensures.x_after), counted c, c.put_back.ensures.capacity))
