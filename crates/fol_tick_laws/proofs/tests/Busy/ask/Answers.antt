use Rattle.fol_tick_laws.proofs.OpenTicks.{open_asked}
use Rattle.fol_tick_laws.proofs.Unprepared.{calm_as, calm_begun, still_none}
use Rattle.fol_tick_laws.proofs.tests.Busy.ask.Goals as goal

pub returns-clause-begins : goal.returns-clause-begins
returns-clause-begins g c = (c.reserve.new.self, c.begin.ensures)

pub returns-clause-kept : goal.returns-clause-kept
returns-clause-kept g c =
    rw (← c.self.view_is)
    (open_asked c.self.inside.core c.reserve.new.self c.begin.new.self c.args.worker c.args.worker c.args.region c.begin.result
    c.in-Ok.ensures.same c.begin.ensures)

pub begin-requires-clause-free : goal.begin-requires-clause-free
begin-requires-clause-free g c = still_none c.self.inside.core c.reserve.new.self c.in-Ok.ensures.same.prepared c.self.invariant.1 c.args.region

pub invariant_of-self : goal.invariant_of-self
invariant_of-self g c = calm_begun c.reserve.new.self c.begin.new.self c.args.worker c.args.worker c.args.region c.begin.result c.begin.ensures
    (calm_as c.self.inside.core c.reserve.new.self c.in-Ok.ensures.same.opening c.in-Ok.ensures.same.prepared c.self.invariant)
