use Rattle.std.proofs.Common.{◌<◌, length, ap, arith}
use Rattle.fol_model.specs.FlatTick.{FlatEnd}
use Rattle.fol_tick.proofs.WishRoom.{asked_here}
use Rattle.fol_tick.proofs.NextTask.{has_next, next_runs, next_may}
use Rattle.fol_tick.proofs.run.run_next.Goals as goal

pub returns-clause-runs : goal.returns-clause-runs
returns-clause-runs g c =
    let done = c.in_ok-run_task.ensures.ok in
    let here : c.args.tick.now.next < length c.args.tick.now.due = has_next c.args.tick.now c.args.prepared c.requires.prepared in (
      done.0,
      done.1,
      next_runs c.args.tick.now c.index-as_slice-tick.result c.requires.may_run here (rw c.as_slice.ensures at c.index-as_slice-tick.is) c.args.log.now c.run_task.new.log c.run_task.new.chunks done.0 done.2,
    )

pub returns-clause-may_run : goal.returns-clause-may_run
returns-clause-may_run g c =
    let here : c.args.tick.now.next < length c.args.tick.now.due = has_next c.args.tick.now c.args.prepared c.requires.prepared in
    next_may c.args.tick.now c.index-as_slice-tick.result c.requires.may_run here (rw c.as_slice.ensures at c.index-as_slice-tick.is) c.run_task.new.chunks (ap (λ (s : FlatEnd). s.flat) c.in_ok-run_task.ensures.ok.2.stage)

pub run_task-requires-clause-room_for_wishes : goal.run_task-requires-clause-room_for_wishes
run_task-requires-clause-room_for_wishes g c =
    let here : c.args.tick.now.next < length c.args.tick.now.due = has_next c.args.tick.now c.args.prepared c.requires.prepared in
    let one = asked_here c.args.tick.now c.index-as_slice-tick.result here (rw c.as_slice.ensures at c.index-as_slice-tick.is) in
    omega (arith, one, c.requires.room_for_wishes)

pub returns-clause-wishes_len : goal.returns-clause-wishes_len
returns-clause-wishes_len g c =
    let here : c.args.tick.now.next < length c.args.tick.now.due = has_next c.args.tick.now c.args.prepared c.requires.prepared in
    let one = asked_here c.args.tick.now c.index-as_slice-tick.result here (rw c.as_slice.ensures at c.index-as_slice-tick.is) in
    omega (arith, one, c.run_task.ensures.wishes_len)

pub returns-in_err-run_task-clause-wishes_len : goal.returns-in_err-run_task-clause-wishes_len
returns-in_err-run_task-clause-wishes_len g c =
    let here : c.args.tick.now.next < length c.args.tick.now.due = has_next c.args.tick.now c.args.prepared c.requires.prepared in
    let one = asked_here c.args.tick.now c.index-as_slice-tick.result here (rw c.as_slice.ensures at c.index-as_slice-tick.is) in
    omega (arith, one, c.run_task.ensures.wishes_len)
