use Rattle.std.proofs.lemmas.Result.{on_err_weaker, on_ok_weaker}
use Rattle.fol_live.proofs.HeldTicks.{held_may_run}
use Rattle.fol_pool.proofs.TickSteps.{came_to_run, came_to_stuck}
use Rattle.fol_pool.proofs.tick.run.Goals as goal

pub run_tick-ran-requires : goal.run_tick-ran-requires
run_tick-ran-requires g c = held_may_run c.args.seat c.args.tick.now c.requires.holds.out

pub returns-clause-ran : goal.returns-clause-ran
returns-clause-ran g c =
    on_ok_weaker c.run_tick-ran.result
    (came_to_run c.args.seat c.of-host.result.seat c.run_tick-ran.new.host.seat c.into_seat.result c.args.tick.now c.run_tick-ran.new.tick c.of-host.ensures.seat c.into_seat.ensures c.requires.holds)
    c.run_tick-ran.ensures.ok

pub returns-clause-stuck : goal.returns-clause-stuck
returns-clause-stuck g c =
    on_err_weaker c.run_tick-ran.result
    (came_to_stuck c.args.seat c.of-host.result.seat c.run_tick-ran.new.host.seat c.into_seat.result c.args.tick.now c.run_tick-ran.new.tick c.of-host.ensures.seat c.into_seat.ensures c.requires.holds)
    c.run_tick-ran.ensures.err
