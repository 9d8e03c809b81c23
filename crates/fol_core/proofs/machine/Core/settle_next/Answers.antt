use Rattle.fol_core.proofs.Ahead.{gathered_ahead}
use Rattle.fol_world.proofs.GatheredBags.{owing_given, ready_free, ready_home}
use Rattle.fol_core.proofs.machine.Core.settle_next.Goals as goal

pub settle_next-requires-clause-given : goal.settle_next-requires-clause-given
settle_next-requires-clause-given c = λ x. owing_given _ _ _ c.self.invariant.0.stands c.args.id x

pub settle_next-requires-clause-at_home : goal.settle_next-requires-clause-at_home
settle_next-requires-clause-at_home c = λ x. ready_home _ _ _ c.self.invariant.0.stands c.args.id x

pub settle_next-requires-clause-free : goal.settle_next-requires-clause-free
settle_next-requires-clause-free c = λ x. ready_free _ _ _ c.self.invariant.0.stands c.args.id x

pub invariant_of-self : goal.invariant_of-self
invariant_of-self c = (
  gathered_ahead _ _ _ _ c.self.invariant.0 c.settle_next.new.store c.settle_next.ensures.things c.settle_next.ensures.next c.settle_next.ensures.bags,
  tt,
  c.self.invariant.2,
  c.self.invariant.3,
)
