use Rattle.fol_chunks.proofs.Owing.{none_owed}
use Rattle.fol_chunks.proofs.walkers.Walkers.put.Goals as goal

pub put-requires-clause-order : goal.put-requires-clause-order
put-requires-clause-order c = rw c.settle.ensures.paid c.self.invariant

pub invariant_of-self : goal.invariant_of-self
invariant_of-self c = rw (none_owed c.settle.new.self c.put.new.entities.items c.settle.ensures.none) c.put.ensures.order

pub returns-clause-entity : goal.returns-clause-entity
returns-clause-entity c =
    let there = rw c.settle.ensures.paid at c.put.ensures.entity in
    rw (none_owed c.settle.new.self c.put.new.entities.items c.settle.ensures.none, ← c.self.view_is) there

pub returns-clause-order : goal.returns-clause-order
returns-clause-order c = invariant_of-self c
