use Rattle.fol_chunks.proofs.Owing.{none_owed}
use Rattle.fol_chunks.proofs.walkers.Walkers.take.Goals as goal

pub take-requires : goal.take-requires
take-requires c = rw c.settle.ensures.paid c.self.invariant

pub invariant_of-self : goal.invariant_of-self
invariant_of-self c = rw (none_owed c.settle.new.self c.take.new.entities.items c.settle.ensures.none) c.take.ensures.order

pub returns-clause-left : goal.returns-clause-left
returns-clause-left c =
    let left = rw c.settle.ensures.paid at c.take.ensures.left in
    rw (none_owed c.settle.new.self c.take.new.entities.items c.settle.ensures.none, ← c.self.view_is) left

pub returns-clause-order : goal.returns-clause-order
returns-clause-order c = invariant_of-self c
