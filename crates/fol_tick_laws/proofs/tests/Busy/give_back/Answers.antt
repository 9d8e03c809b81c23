use Rattle.fol_tick_laws.proofs.OpenTicks.{end_kept, out_kept}
use Rattle.fol_tick_laws.proofs.Unprepared.{calm_as, spares_all, still_none}
use Rattle.fol_tick_laws.proofs.tests.Busy.give_back.Goals as goal

pub release-requires-clause-out : goal.release-requires-clause-out
release-requires-clause-out g c = out_kept c.self.inside.core c.reserve_release.new.self _ _ c.in-Ok.ensures.stays c.in-Ok.ensures.same (rw (← c.self.view_is) at c.requires)

pub release-requires-clause-spares : goal.release-requires-clause-spares
release-requires-clause-spares g c = spares_all c.reserve_release.new.self _ (still_none c.self.inside.core c.reserve_release.new.self c.in-Ok.ensures.stays.prepared c.self.invariant.1)

pub invariant_of-self : goal.invariant_of-self
invariant_of-self g c = calm_as c.reserve_release.new.self c.release.new.self c.in-Ok-release.ensures.recorded.opening c.in-Ok-release.ensures.recorded.prepared
    (calm_as c.self.inside.core c.reserve_release.new.self c.in-Ok.ensures.stays.opening c.in-Ok.ensures.stays.prepared c.self.invariant)

pub returns : goal.returns
returns g c = rw (← c.self.view_is) (end_kept c.self.inside.core c.reserve_release.new.self c.release.new.self _ _ c.in-Ok.ensures.stays c.in-Ok.ensures.same c.in-Ok-release.ensures.recorded)
