use Rattle.fol_core.proofs.AheadTouched.{alone_touched, given_marked, holds_now, owner_now}
use Rattle.fol_core.proofs.machine.Core.touched_alone.Goals as goal

pub returns-clause-ready : goal.returns-clause-ready
returns-clause-ready c = rw (← c.self.view_is) (given_marked _ _ _ _ c.self.invariant.0)

pub returns-clause-held : goal.returns-clause-held
returns-clause-held c = rw (← c.self.view_is) (rw (← holds_now _ _ _ _ c.self.invariant.0 c.args.c) c.owner_if_held.ensures.held)

pub returns-clause-alone : goal.returns-clause-alone
returns-clause-alone c = rw (← c.self.view_is) (alone_touched _ _ _ _ c.self.invariant.0 c.args.c c.owner_if_held.result c.owner_if_held.ensures.alone)

pub returns-clause-owner : goal.returns-clause-owner
returns-clause-owner c = rw (← c.self.view_is) (rw (← owner_now _ _ _ _ c.self.invariant.0 c.args.c) c.owner_if_held.ensures.owner)
