use Rattle.std.proofs.Common.{[], arith}
use Rattle.fol_tick.specs.Logs.{with_log}
use Rattle.fol_tick.proofs.WishRoom.{asked_next}
use Rattle.fol_tick.proofs.Stages.{runs_none, came_on}
use Rattle.fol_tick.proofs.run.run_tasks.Goals as goal

pub loop-tick-init : goal.loop-tick-init
loop-tick-init g c = record {
  runs = ([], g.met.H.Host.stays _, runs_none (with_log c.args.tick.now c.args.log.now) c.requires.may_run.unmoved c.requires.may_run.within);
  may_run = c.requires.may_run;
  stock = c.requires.stock;
  spare = c.requires.spare;
  room_for_ran = c.requires.room_for_ran;
  room_for_wishes = c.requires.room_for_wishes;
}

pub loop-tick-preserved : goal.loop-tick-preserved
loop-tick-preserved g c =
    let ran = c.in_ok-run_from.ensures in
    let inv = c.loop-tick.invariant in
    record {
      runs = came_on g.H.Host.reaches g.met.H.Host.follows _ _ _ (with_log c.args.tick.now c.args.log.now) (with_log c.loop-tick.tick c.loop-tick.log) (with_log c.run_from.new.tick c.run_from.new.log) c.requires.may_run.task_order inv.runs ran.runs;
      may_run = ran.may_run;
      stock = rw (ran.ok, ran.runs.2.same.due) ran.stock;
      spare = rw (ran.ok, ran.runs.2.same.due) (omega (arith, ran.spare, inv.spare));
      room_for_ran = rw (ran.ok, ran.runs.2.same.due) (omega (arith, ran.ran_len, ran.ran_capacity, inv.room_for_ran));
      room_for_wishes =
          rw (ran.ok, ran.runs.2.same.due)
          (let next = asked_next c.loop-tick.tick.due c.loop-tick.tick.next in omega (arith, next, ran.wishes_len, ran.wishes_capacity, inv.room_for_wishes));
    }

pub returns-in_err-run_from-clause-runs : goal.returns-in_err-run_from-clause-runs
returns-in_err-run_from-clause-runs g c =
    came_on g.H.Host.reaches g.met.H.Host.follows _ _ _ (with_log c.args.tick.now c.args.log.now) (with_log c.loop-tick.tick c.loop-tick.log) (with_log c.run_from.new.tick c.run_from.new.log) c.requires.may_run.task_order c.loop-tick.invariant.runs
    c.in_err-run_from.ensures.runs

pub run_from-requires-clause-room_for_wishes : goal.run_from-requires-clause-room_for_wishes
run_from-requires-clause-room_for_wishes g c = let next = asked_next c.loop-tick.tick.due c.loop-tick.tick.next in omega (arith, next, c.loop-tick.invariant.room_for_wishes)
