use Rattle.fol_live.proofs.hand.Hand.meet.Goals as goal

pub meet-worker-requires-clause-has : goal.meet-worker-requires-clause-has
meet-worker-requires-clause-has c = c.self.invariant.has c.in-Some.region c.in-Some.is
