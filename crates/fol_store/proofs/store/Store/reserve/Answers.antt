use Rattle.fol_store.specs.contracts.store.Store.{the_view}
use Rattle.fol_store.proofs.BagSteps.{resized}
use Rattle.fol_store.proofs.store.Store.reserve.Goals as goal

pub invariant_of-self-2 : goal.invariant_of-self-2
invariant_of-self-2 c = (resized (the_view c.self.inside) c.reserve.new.self.items c.reserve-2.new.self.items _ _ c.reserve.ensures.items c.reserve-2.ensures.items c.self.invariant).sound

pub returns-clause-contents : goal.returns-clause-contents
returns-clause-contents c = rw (← c.self.view_is) (resized (the_view c.self.inside) c.reserve.new.self.items c.reserve-2.new.self.items _ _ c.reserve.ensures.items c.reserve-2.ensures.items c.self.invariant).contents

pub returns-clause-tasks : goal.returns-clause-tasks
returns-clause-tasks c = rw (← c.self.view_is) (resized (the_view c.self.inside) c.reserve.new.self.items c.reserve-2.new.self.items _ _ c.reserve.ensures.items c.reserve-2.ensures.items c.self.invariant).tasks

pub returns-clause-bags : goal.returns-clause-bags
returns-clause-bags c = rw (← c.self.view_is) (resized (the_view c.self.inside) c.reserve.new.self.items c.reserve-2.new.self.items _ _ c.reserve.ensures.items c.reserve-2.ensures.items c.self.invariant).bags

pub returns-clause-next : goal.returns-clause-next
returns-clause-next c = rw (← c.self.view_is) (resized (the_view c.self.inside) c.reserve.new.self.items c.reserve-2.new.self.items _ _ c.reserve.ensures.items c.reserve-2.ensures.items c.self.invariant).next
