use Rattle.fol_tick_laws.specs.OpenTicks.{IsOpen}
use Rattle.fol_tick_laws.proofs.OpenTicks.{may_run_open, open_others, out_when_run}
use Rattle.fol_tick_laws.proofs.tests.Busy.end.Goals as goal

pub run_tick-requires : goal.run_tick-requires
run_tick-requires g c =
    let is : IsOpen c.self.inside.core c.args.tick = rw (← c.self.view_is) at c.requires in
    may_run_open c.self.inside.core c.args.tick c.self.invariant.0 c.history-entries.ensures.run is

pub give_back-requires : goal.give_back-requires
give_back-requires g c =
    let run = c.in-Ok.ensures.ok in
    out_when_run c.args.self.now c.args.tick c.run_tick.new.tick run.0 c.requires run.2

pub returns : goal.returns
returns g c =
    let run = c.in-Ok.ensures.ok in
    open_others c.args.self.now c.give_back.new.self c.args.tick c.run_tick.new.tick run.0 run.2 c.give_back.ensures
