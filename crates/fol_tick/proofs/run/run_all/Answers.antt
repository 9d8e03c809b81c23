use Rattle.std.proofs.Common.{arith, drop-drop}
use Rattle.fol_tick.specs.Logs.{with_log}
use Rattle.fol_tick.proofs.WishRoom.{asked_next}
use Rattle.fol_tick.proofs.Stages.{came_on}
use Rattle.fol_tick.proofs.run.run_all.Goals as goal

pub run_tasks-requires-clause-stock : goal.run_tasks-requires-clause-stock
run_tasks-requires-clause-stock g c =
    let ran = c.in_ok-run_next.ensures in
    rw (ran.ok, ran.runs.2.same.due) (rw (drop-drop 1 c.args.tick.now.next c.args.tick.now.due) at c.requires.stock)

pub run_tasks-requires-clause-spare : goal.run_tasks-requires-clause-spare
run_tasks-requires-clause-spare g c =
    let ran = c.in_ok-run_next.ensures in
    rw (ran.ok, ran.runs.2.same.due) (omega (arith, ran.spare, c.requires.spare))

pub run_tasks-requires-clause-room_for_ran : goal.run_tasks-requires-clause-room_for_ran
run_tasks-requires-clause-room_for_ran g c =
    let ran = c.in_ok-run_next.ensures in
    rw (ran.ok, ran.runs.2.same.due) (omega (arith, ran.ran_len, ran.ran_capacity, c.requires.room_for_ran))

pub returns-clause-runs : goal.returns-clause-runs
returns-clause-runs g c =
    came_on g.H.Host.reaches g.met.H.Host.follows _ _ _ (with_log c.args.tick.now c.args.log.now) (with_log c.run_next.new.tick c.run_next.new.log) (with_log c.run_tasks.new.tick c.run_tasks.new.log) c.requires.may_run.task_order c.in_ok-run_next.ensures.runs
    c.run_tasks.ensures.runs

pub run_next-requires-clause-room_for_wishes : goal.run_next-requires-clause-room_for_wishes
run_next-requires-clause-room_for_wishes g c = let next = asked_next c.args.tick.now.due c.args.tick.now.next in omega (arith, next, c.requires.room_for_wishes)

pub run_tasks-requires-clause-room_for_wishes : goal.run_tasks-requires-clause-room_for_wishes
run_tasks-requires-clause-room_for_wishes g c =
    let ran = c.in_ok-run_next.ensures in
    let next = asked_next c.args.tick.now.due c.args.tick.now.next in
    rw (ran.ok, ran.runs.2.same.due) (omega (arith, next, ran.wishes_len, ran.wishes_capacity, c.requires.room_for_wishes))
