use Rattle.fol_chunks.proofs.Owing.{none_owed}
use Rattle.fol_chunks.proofs.walkers.Walkers.move_listed.Goals as goal

pub invariant_of-self : goal.invariant_of-self
invariant_of-self c = rw (none_owed c.settle.new.self c.move_listed.new.entities.items c.settle.ensures.none) c.move_listed.ensures.order

pub invariant_of-into : goal.invariant_of-into
invariant_of-into c = rw (none_owed c.settle-2.new.self c.move_listed.new.into.items c.settle-2.ensures.none) c.move_listed.ensures.into_order

pub returns-clause-left : goal.returns-clause-left
returns-clause-left c =
    let left = rw c.settle.ensures.paid at c.move_listed.ensures.left in
    rw (none_owed c.settle.new.self c.move_listed.new.entities.items c.settle.ensures.none, ← c.self.view_is) left

pub returns-clause-moved : goal.returns-clause-moved
returns-clause-moved c =
    let moved = rw (c.settle.ensures.paid, c.settle-2.ensures.paid) at c.move_listed.ensures.moved in
    rw (none_owed c.settle-2.new.self c.move_listed.new.into.items c.settle-2.ensures.none, ← c.self.view_is, ← c.into.view_is) moved

pub returns-clause-order : goal.returns-clause-order
returns-clause-order c = invariant_of-self c

pub returns-clause-into_order : goal.returns-clause-into_order
returns-clause-into_order c = invariant_of-into c
